use Rattle.std.proofs.Common.{ap, refl, map}
use Rattle.flat_verify.specs.Settings.{setting_of}
use Rattle.flat_verify.specs.Hints.{here_of}
use Rattle.flat_verify.specs.Views.{link_of}
use Rattle.flat_verify.proofs.Demanded.{body_made}
use Rattle.flat_verify.proofs.program.body_links.Goals as goal

pub returns : goal.returns
returns c =
    let g = c.args.setting.now.exponent in
    body_made (setting_of c.args.setting.now) g (here_of c.untold-told.result) c.in_ok-after.after _ c.args.items.now (map link_of c.new-links.result.items) _
    (c.in_ok-after.ensures g) c.untold-told.ensures refl (ap (map link_of) c.new-links.ensures.items) c.in_ok-push_links_all.ensures
