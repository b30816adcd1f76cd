-- What was told says what a run leaves behind, also when more is told.
use Rattle.std.proofs.Common.{◌≡◌, ℕ, List, [], ◌∷◌, ◌++◌, sym, ap, ◌∙◌}
use Rattle.flat_code.specs.Told.{Stamped, tells, output_of, trail_of}
use Rattle.flat_code.specs.Told as Told
use Rattle.flat_code_laws.specs.Laws.{TellsAppend, OutputAppends, TrailAppends}
use Rattle.injection.specs.Trail.{image_trail}
use Rattle.injection.specs.Laws.{SaysKeep}
use Rattle.injection.proofs.Accounts.{image_append, image_kept}
use Rattle.injection.proofs.Lists.{append_nothing}

module _ (tells_append : TellsAppend) (output_appends : OutputAppends) (trail_appends : TrailAppends) where
  output_more : (told more : List Stamped) (a b : List ℕ) → output_of (tells told) ≡ a → output_of (tells more) ≡ b → output_of (tells (told ++ more)) ≡ a ++ b
  output_more told more a b e f = ap output_of (tells_append told more) ∙ output_appends (tells told) (tells more) ∙ ap (λ x. x ++ output_of (tells more)) e ∙ ap (λ y. a ++ y) f

  trail_more : (told more : List Stamped) (a b : List Told.Mark) → trail_of (tells told) ≡ a → trail_of (tells more) ≡ b → trail_of (tells (told ++ more)) ≡ a ++ b
  trail_more told more a b e f = ap trail_of (tells_append told more) ∙ trail_appends (tells told) (tells more) ∙ ap (λ x. x ++ trail_of (tells more)) e ∙ ap (λ y. a ++ y) f

  pub says_keep : SaysKeep
  says_keep = record {
    quiet = λ safe w told more s o t. record {
      said = output_more told more _ [] s.said o ∙ append_nothing w.output;
      went = trail_more told more _ [] s.went t ∙ append_nothing (image_trail safe w.objects w.trail);
    };
    written = λ safe w byte told more s o t. record {
      said = output_more told more _ (byte ∷ []) s.said o;
      went = trail_more told more _ [] s.went t ∙ append_nothing (image_trail safe w.objects w.trail);
    };
    marked = λ safe w mark told more s o t. record {
      said = output_more told more _ [] s.said o ∙ append_nothing w.output;
      went = trail_more told more _ _ s.went t ∙ sym (image_append safe w.objects w.trail (mark ∷ []));
    };
    accounted = λ g safe w x told h named e f s. record {
      said = s.said ∙ sym f;
      went = s.went ∙ sym (ap (image_trail safe x.objects) e ∙ image_kept g safe w.objects x.objects w.trail h named);
    };
  }
