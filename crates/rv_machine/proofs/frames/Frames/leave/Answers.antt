use Rattle.std.proofs.Common.{◌≡◌, ◌-◌, ◌<◌, length, ap, subst, ◌∙◌, refl, arith}
use Rattle.std.specs.Prelude.{slice_get, Some}
use Rattle.std.proofs.lemmas.List.Elements.{recursion_from_All}
use Rattle.std.proofs.lemmas.Option.{slice_get_read}
use Rattle.size_table.specs.Made.{blocks_from}
use Rattle.rv_machine.proofs.CallChain.{is_last}
use Rattle.rv_machine.proofs.frames.Frames.leave.Goals as goal
use Rattle.size_table.specs.Blocks.{IsBlock}

pub end_all-requires : goal.end_all-requires
end_all-requires c =
    let calls = c.self.inside.entered.items in
    let call = c.index-call.result.now in
    let es = c.layout.result.now in
    let whole : c.len-count.result ≡ length calls = omega arith in
    let within : c.len-count.result - 1 < length calls = omega arith in
    let read : slice_get calls (c.len-count.result - 1) ≡ Some call = slice_get_read calls (length calls) (c.len-count.result - 1) call refl within c.index-call.ensures in
    let last = subst (λ n. slice_get calls (n - 1) ≡ Some call) whole read in
    let layout = ap (slice_get c.self.inside.layouts) c.if-call-k.false ∙ c.layout.ensures.value in
    let is = is_last c.self.inside.layouts calls c.self.inside.stack call es c.self.invariant.0 c.self.invariant.2 last layout in
    recursion_from_All (IsBlock 4) (blocks_from c.self.inside.stack es) is.placed.blocks

pub invariant_of-self : goal.invariant_of-self
invariant_of-self c =
    let calls = c.self.inside.entered.items in
    let call = c.index-call.result.now in
    let whole : c.len-count.result ≡ length calls = omega arith in
    let within : c.len-count.result - 1 < length calls = omega arith in
    let read : slice_get calls (c.len-count.result - 1) ≡ Some call = slice_get_read calls (length calls) (c.len-count.result - 1) call refl within c.index-call.ensures in
    let last = subst (λ n. slice_get calls (n - 1) ≡ Some call) whole read in
    let layout = ap (slice_get c.self.inside.layouts) c.if-call-k.false ∙ c.layout.ensures.value in
    let is = is_last c.self.inside.layouts calls c.self.inside.stack call c.layout.result.now c.self.invariant.0 c.self.invariant.2 last layout in
    (c.self.invariant.0, omega arith, rw (c.truncate.ensures.items, whole) is.others)
