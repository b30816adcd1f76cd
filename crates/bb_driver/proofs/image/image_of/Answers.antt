use Rattle.flat_verify.specs.Views.{block_of}
use Rattle.flat_discipline.specs.Discipline.{IsDisciplined}
use Rattle.bounds_instr_code.specs.Code.{global_blocks}
use Rattle.std.proofs.Common.{◌∙◌, ◌≤◌, [], ap, length, refl, sym, arith, ◌≡◌, subst}
use Rattle.std.proofs.lemmas.List.{length-map}
use Rattle.std.specs.Prelude.{replicate, map}
use Rattle.mid_code.specs.Views.{program_of, function_of}
use Rattle.flat_code.specs.CodeViews.{code_of}
use Rattle.flat_code.specs.Weight.{weight}
use Rattle.rv_image.specs.declared.image.Image.{Image}
use Rattle.rv_selected.specs.Selection.{selected}
use Rattle.bb_driver.proofs.Images.{IsPlain, made, refused}
use Rattle.bb_driver.proofs.image.image_of.Goals as goal

pub unreachable-requires-in-Err-Unchecked : goal.unreachable-requires-in-Err-Unchecked
unreachable-requires-in-Err-Unchecked c =
    let blocks : global_blocks 4 (program_of c.args.mid.now) ≡ map block_of c.new.result = c.requires.plain ∙ sym (ap (map block_of) c.new.ensures) in
    let disciplined = subst (λ bs. IsDisciplined 4 bs (code_of c.in-Ok.flat)) blocks c.in-Ok.ensures.1.disciplined in
    refused c.in-Err-Unchecked.field-0 c.in-Err-Unchecked.field-0-0 c.in-Err-Unchecked.field-0-1 c.in-Err-Unchecked.field-0-is (c.in-Err-Unchecked.ensures.accepts disciplined)

pub returns : goal.returns
returns c =
    let p = program_of c.args.mid.now in
    let image : Image = record { version = 1; entry = 4096; globals = c.new-2.result; frames = c.in_ok-frames.field-0; initial = c.new-3.result; text = c.in_ok-text.text.words } in
    let plain : IsPlain image (length p.functions) = record {
      version = refl;
      entry = refl;
      globals = c.new-2.ensures;
      frames = c.in_ok-frames.ensures ∙ ap (λ n. replicate n []) (c.len.ensures ∙ sym (length-map c.args.mid.now.functions function_of));
      initial = c.new-3.ensures;
    } in
    let verified = c.in-Ok-verify.ensures in
    let light : weight c.in-Ok-verify.verified.exponent (code_of c.in-Ok-verify.verified.code.now) ≤ 2093056 =
    let a = c.in-Ok.ensures.1.light in
    let b = c.requires.light in
    rw (verified.exponent, verified.code) (omega (arith, a, b))
    in
    let same = c.in_ok-labelled.ensures.parts ∙ ap (λ f. selected c.in-Ok-verify.verified.exponent (code_of f)) verified.code ∙ ap (λ g. selected g (code_of c.in-Ok.flat)) verified.exponent in
    let are = c.in_ok-labelled.ensures.resolvable light in
    let shape = c.texts_have_shape.ensures c.in_ok-labelled.labelled.parts c.in_ok-text.text.words are c.in_ok-labelled.ensures.shape c.in_ok-text.ensures in
    made p (code_of c.in-Ok.flat) c.in_ok-labelled.labelled.parts image plain c.requires.few c.in-Ok.ensures.1 are same c.in_ok-text.ensures shape
