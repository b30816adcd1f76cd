use Rattle.std.proofs.Common.{◌≡◌, ℕ, ◌+◌, ◌*◌, List, [], ◌∷◌, length, sym, ap, subst, ◌∙◌, arith}
use Rattle.std.proofs.lemmas.List.{length-append}
use Rattle.rv_code.specs.declared.instr.Instr.{Instr}
use Rattle.rv_machine.specs.Decoded.{IsDecoded, AreDecoded}
use Rattle.rv_machine.proofs.Decoding.{decoded_more}
use Rattle.size_table.specs.Memory.{word_at}
use Rattle.rv_machine.proofs.memory.decoded_text.Goals as goal

pub loop-k-preserved : goal.loop-k-preserved
loop-k-preserved c =
    let text = c.loop-k.text.items in
    let i = c.decoded_word.result in
    let bytes = c.args.bytes.now in
    let long = c.loop-k.invariant.long in
    let at : 4096 + 4 * c.loop-k.k ≡ 4096 + 4 * length text = ap (λ (n : ℕ). 4096 + 4 * n) (sym long) in
    let one : IsDecoded (word_at bytes (4096 + 4 * length text)) i = subst (λ (w : ℕ). IsDecoded w i) (c.word_at.ensures ∙ ap (word_at bytes) at) c.decoded_word.ensures in
    record {
      decoded = subst (λ (t : List Instr). AreDecoded t bytes) (sym c.in_ok-push.ensures.items) (decoded_more text i bytes c.loop-k.invariant.decoded (omega (arith, long, c.loop-k-test.true, c.requires.words)) one);
      long = ap (λ (t : List Instr). length t) c.in_ok-push.ensures.items ∙ length-append text (i ∷ []) ∙ ap (λ (n : ℕ). n + 1) long;
    }
