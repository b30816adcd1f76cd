-- What an expression makes of a scene.
use Rattle.std.proofs.Common.{◌≡◌, ℕ, ◌+◌, ◌<◌, ◌≤◌, Bool, true, List, [], ◌∷◌, ◌++◌, length, refl, sym, ◌∙◌, ap, subst, arith}
use Rattle.std.specs.Prelude.{Ok, Option, Some, None, slice_get, slice_set}
use Rattle.std.specs.List.{AllByRecursion}
use Rattle.std.proofs.lemmas.List.{append_assoc, append-nil, length-append}
use Rattle.std.proofs.lemmas.List.Elements.{All-nil, All-append, All-push, All-weaker, All-cons}
use Rattle.c_words.specs.declared.place.At.{At}
use Rattle.syntax_tree.specs.declared.syntax.specifiers.Specifier.{Specifier as SpecifierTree}
use Rattle.syntax_tree.specs.declared.syntax.specifiers.Specifier.TheVariants as words
use Rattle.typed_tree.specs.TypedTree.{CExpr, CStruct}
use Rattle.typed_tree.specs.TypedBody.{IsBytes}
use Rattle.typed_tree.specs.Typed.{IsString}
use Rattle.typed_tree.specs.Sizes.{IsType}
use Rattle.typing_operators.specs.Rule.{Rule, ◌>>=◌}
use Rattle.typing_expressions.specs.declared.calls.Callee.{Callee}
use Rattle.typing_expressions.specs.declared.calls.Callee.TheVariants as callee
use Rattle.typing_expressions.specs.Names.{found}
use Rattle.typing_expressions.specs.Scene.{CScene, CDeclared}
use Rattle.typing_expressions.specs.Expressions.{called_first, called_if_named, function_called, joined, text, tagged_by, tagged, based, aside, back, counted_by}
use Rattle.syntax_in_range.specs.InRange.{AreBytes}
use Rattle.typing_unit_keeps.proofs.Scenes.{IsTag, HasMoreTags, AreNumbered, AreCalled, HasMoreTexts, Grows, GrowsWithin}
use Rattle.typing_unit_keeps.proofs.Steps.{passes, bound, same_ok, not_less, All-found, flag_kept, set_length}

-- growth, one step after another

tags_then : (xs ys zs : List CStruct) → HasMoreTags xs ys → HasMoreTags ys zs → HasMoreTags xs zs
tags_then xs ys zs a b = record {
  tags = a.tags ++ b.tags;
  structs = b.structs ∙ ap (λ s. s ++ b.tags) a.structs ∙ append_assoc xs a.tags b.tags;
  are_tags = All-append IsTag a.tags b.tags a.are_tags b.are_tags;
}

texts_then : (xs ys zs : List (List ℕ)) → HasMoreTexts xs ys → HasMoreTexts ys zs → HasMoreTexts xs zs
texts_then xs ys zs a b = record {
  more = a.more ++ b.more;
  texts = b.texts ∙ ap (λ s. s ++ b.more) a.texts ∙ append_assoc xs a.more b.more;
  are_strings = All-append IsString a.more b.more a.are_strings b.are_strings;
}

pub tags_same : (structs : List CStruct) → HasMoreTags structs structs
tags_same structs = record { tags = []; structs = sym (append-nil structs); are_tags = All-nil IsTag }

pub texts_same : (texts : List (List ℕ)) → HasMoreTexts texts texts
texts_same texts = record { more = []; texts = sym (append-nil texts); are_strings = All-nil IsString }

pub called_same : (flags : List Bool) → AreCalled flags flags
called_same flags = record { same_length = refl; kept = λ k h. h }

pub called_then : (a b c : List Bool) → AreCalled a b → AreCalled b c → AreCalled a c
called_then a b c m n = record { same_length = n.same_length ∙ m.same_length; kept = λ k h. n.kept k (m.kept k h) }

pub grows_same : (s : CScene) → Grows s s
grows_same s = record { structs = tags_same s.structs; tags = λ h. h; names = refl; functions = refl; texts = texts_same s.texts; called = called_same s.called }

pub grows_then : (s u w : CScene) → Grows s u → Grows u w → Grows s w
grows_then s u w a b = record {
  structs = tags_then s.structs u.structs w.structs a.structs b.structs;
  tags = λ h. b.tags (a.tags h);
  names = b.names ∙ a.names;
  functions = b.functions ∙ a.functions;
  texts = texts_then s.texts u.texts w.texts a.texts b.texts;
  called = called_then s.called u.called w.called a.called b.called;
}

pub within_same : (s : CScene) → GrowsWithin s s
within_same s = record { grows = grows_same s; locals = refl; scopes = refl }

pub within_then : (s u w : CScene) → GrowsWithin s u → GrowsWithin u w → GrowsWithin s w
within_then s u w a b = record { grows = grows_then s u w a.grows b.grows; locals = b.locals ∙ a.locals; scopes = b.scopes ∙ a.scopes }

-- a scene that is given back as it is
pub kept : {A : Type 0} (s u : CScene) (v : A) (r : A × CScene) → GrowsWithin s u → (let q : Rule (A × CScene) = Ok (v, u) in q) ≡ Ok r → GrowsWithin s r.1
kept s u v r grows h = subst (λ (x : CScene). GrowsWithin s x) (ap (λ (x : _ × CScene). x.1) (same_ok (v, u) r h)) grows

-- a rule that leaves the scene
pub ruled : {A B : Type 0} (s u : CScene) (rule : Rule A) (f : A → B) (r : B × CScene) → GrowsWithin s u → (rule >>= λ v. Ok (f v, u)) ≡ Ok r → GrowsWithin s r.1
ruled s u rule f r grows h = let x = bound rule (λ v. Ok (f v, u)) r h in kept s u (f x.0) r grows x.2

-- tags

pub more_numbered : (structs new : List CStruct) (tags : List (List ℕ × ℕ)) → length structs ≤ length new → AreNumbered structs tags → AreNumbered new tags
more_numbered structs new tags more all = All-weaker (λ e. e.1 < length structs) (λ e. e.1 < length new) (λ e h. omega arith) tags all

tag_grows : (s : CScene) (x : List ℕ) (o : Option ℕ) → GrowsWithin s (tagged_by s x o).1
tag_grows s x (Some k) = within_same s
tag_grows s x None = record {
  grows = record {
    structs = record {
      tags = _;
      structs = refl;
      are_tags = All-cons IsTag _ [] (record { members = refl; size = refl; align = refl }) (All-nil IsTag);
    };
    tags = λ h.
        let longer : length (s.structs ++ record { tag = x; members = []; size = 0; align = 1 } ∷ []) ≡ length s.structs + 1 = length-append s.structs _ in
        All-push (λ e. e.1 < length (s.structs ++ record { tag = x; members = []; size = 0; align = 1 } ∷ [])) s.tags (x, length s.structs)
        (more_numbered s.structs _ s.tags (omega arith) h) (omega arith);
    names = refl;
    functions = refl;
    texts = texts_same s.texts;
    called = called_same s.called;
  };
  locals = refl;
  scopes = refl;
}

tag_within : (s : CScene) (x : List ℕ) (o : Option ℕ) → found x s.tags ≡ o → AreNumbered s.structs s.tags → (tagged_by s x o).0 < length (tagged_by s x o).1.structs
tag_within s x (Some k) is all = All-found (λ n. n < length s.structs) s.tags x k all is
tag_within s x None is all =
    let longer : length (s.structs ++ record { tag = x; members = []; size = 0; align = 1 } ∷ []) ≡ length s.structs + 1 = length-append s.structs _ in omega arith

pub tagged_grows : (s : CScene) (x : List ℕ) → GrowsWithin s (tagged s x).1
tagged_grows s x = tag_grows s x (found x s.tags)

pub based_grows : (s : CScene) (specifier : SpecifierTree) → GrowsWithin s (based s specifier).1
based_grows s (words.Void at) = within_same s
based_grows s (words.Char at) = within_same s
based_grows s (words.Int at) = within_same s
based_grows s (words.Signed at) = within_same s
based_grows s (words.SignedInt at) = within_same s
based_grows s (words.Unsigned at) = within_same s
based_grows s (words.UnsignedInt at) = within_same s
based_grows s (words.UnsignedChar at) = within_same s
based_grows s (words.Struct at x) = tagged_grows s x

pub based_type : (s : CScene) (specifier : SpecifierTree) → AreNumbered s.structs s.tags → IsType (based s specifier).1.structs (based s specifier).0
based_type s (words.Void at) h = tt
based_type s (words.Char at) h = tt
based_type s (words.Int at) h = tt
based_type s (words.Signed at) h = tt
based_type s (words.SignedInt at) h = tt
based_type s (words.Unsigned at) h = tt
based_type s (words.UnsignedInt at) h = tt
based_type s (words.UnsignedChar at) h = tt
based_type s (words.Struct at x) h = tag_within s x (found x s.tags) refl h

-- strings

pub joined_bytes : (pieces : List (List ℕ)) → AllByRecursion AreBytes pieces → IsBytes (joined pieces)
joined_bytes [] h = All-nil (λ b. b < 256)
joined_bytes (piece ∷ pieces) h = All-append (λ b. b < 256) piece (joined pieces) h.0 (joined_bytes pieces h.1)

pub text_grows : (s : CScene) (at : At) (bytes : List ℕ) (r : CExpr × CScene) → IsBytes bytes → text s at bytes ≡ Ok r → GrowsWithin s r.1
unfolding text
text_grows s at bytes r are h =
    let passed = passes _ _ _ r h in
    let fits = not_less _ _ passed.0 in
    kept s _ _ r
    (record {
      grows = record {
        structs = tags_same s.structs;
        tags = λ h. h;
        names = refl;
        functions = refl;
        texts = record { more = bytes ∷ []; texts = refl; are_strings = All-cons IsString bytes [] (are, fits) (All-nil IsString) };
        called = called_same s.called;
      };
      locals = refl;
      scopes = refl;
    })
    passed.1

-- calls

pub called_grows : (s : CScene) (k : ℕ) → GrowsWithin s (record s { called = slice_set s.called k true })
called_grows s k = record {
  grows = record {
    structs = tags_same s.structs;
    tags = λ h. h;
    names = refl;
    functions = refl;
    texts = texts_same s.texts;
    called = record { same_length = set_length s.called k; kept = λ j h. flag_kept s.called k j h };
  };
  locals = refl;
  scopes = refl;
}

pub function_grows : (s : CScene) (at : At) (k : ℕ) (es : List CExpr) (o : Option CDeclared) (r : CExpr × CScene) → function_called s at k es o ≡ Ok r → GrowsWithin s r.1
function_grows s at k es None r h = absurd cc
function_grows s at k es (Some f) r h = ruled s (record s { called = slice_set s.called k true }) _ (λ v. v) r (called_grows s k) h

pub call_grows : (s : CScene) (at : At) (c : Option Callee) (es : List CExpr) (r : CExpr × CScene) → called_if_named s at c es ≡ Ok r → GrowsWithin s r.1
call_grows s at None es r h = absurd cc
call_grows s at (Some (callee.Function k)) es r h = function_grows s at k es (slice_get s.functions k) r h
call_grows s at (Some (callee.Library f)) es r h = ruled s s _ (λ v. v) r (within_same s) h
call_grows s at (Some callee.Object) es r h = absurd cc

pub first_grows : (s u : CScene) (c : Option Callee) (operand : Rule (CExpr × CScene)) → ((r : CExpr × CScene) → operand ≡ Ok r → GrowsWithin s r.1)
    → called_first s c operand ≡ Ok u → GrowsWithin s u
first_grows s u None operand grows h =
    let x = bound operand _ u h in
    subst (λ (w : CScene). GrowsWithin s w) (same_ok x.0.1 u x.2) (grows x.0 x.1)
first_grows s u (Some c) operand grows h = subst (λ (w : CScene). GrowsWithin s w) (same_ok s u h) (within_same s)

-- what was typed aside

from_aside : (s u : CScene) → GrowsWithin (aside s) u → GrowsWithin s (back s u)
from_aside s u g = record {
  grows = record {
    structs = g.grows.structs;
    tags = g.grows.tags;
    names = g.grows.names;
    functions = g.grows.functions;
    texts = texts_same s.texts;
    called = called_same s.called;
  };
  locals = g.locals;
  scopes = g.scopes;
}

pub counted_grows : (s : CScene) (operand : Rule (CExpr × CScene)) (r : Option ℕ × CScene) → ((x : CExpr × CScene) → operand ≡ Ok x → GrowsWithin (aside s) x.1)
    → counted_by s operand ≡ Ok r → GrowsWithin s r.1
counted_grows s operand r grows h =
    let x = bound operand _ r h in
    kept s (back s x.0.1) _ r (from_aside s x.0.1 (grows x.0 x.1)) x.2
