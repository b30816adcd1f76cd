use Rattle.std.proofs.Common.{◌∙◌, codes}
use Rattle.clap.specs.Words.{found_of}
use Rattle.baggy_tool.proofs.CommandLine.{words_asked, value_is}
use Rattle.baggy_tool.proofs.words.asked_by.Goals as goal

pub returns : goal.returns
returns c =
    let found = found_of c.args.matches.now in
    c.with_words.ensures ∙ words_asked _ _ _ _ _ _ _ _ (c.get_str-mode.ensures ∙ value_is (codes "MODE") found) (c.get_str-file.ensures ∙ value_is (codes "FILE") found) (c.get_str.ensures ∙ value_is (codes "steps") found) (c.get_str-2.ensures ∙ value_is (codes "out") found)
