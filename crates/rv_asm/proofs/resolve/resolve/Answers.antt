use Rattle.std.proofs.Common.{◌≡◌, ℕ, List, sym, subst}
use Rattle.rv_asm.specs.declared.parts.Part.{Part}
use Rattle.rv_asm.specs.Parts.{AreParts}
use Rattle.rv_asm.specs.Text.{text_of}
use Rattle.rv_asm.specs.Runs.{IsResolved}
use Rattle.rv_asm.specs.Resolving.{labels_by}
use Rattle.rv_asm.proofs.Settled.{resolved}
use Rattle.rv_asm.proofs.resolve.resolve.Goals as goal

pub returns : goal.returns
returns c =
    let parts : List Part = c.as_slice-parts.result.now in
    let places : List ℕ = c.in_ok-places.places.items in
    let words : List ℕ = c.in_ok-words.words.items in
    let ok : AreParts parts = subst AreParts (sym c.as_slice-parts.ensures) c.requires in
    let text : words ≡ text_of (labels_by parts places) 4096 parts = subst (λ (p : List ℕ). words ≡ text_of (labels_by parts p) 4096 parts) c.deref-3.ensures.value c.in_ok-words.ensures.text in
    let is : IsResolved parts words = resolved parts places ok c.in_ok-places.ensures.stay c.instruction_done.ensures words text c.in_ok-words.ensures.words in
    rw c.from_vec.ensures (subst (λ (ps : List Part). IsResolved ps words) c.as_slice-parts.ensures is)
