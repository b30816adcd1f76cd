-- A function is declared, for the first time or again.
use Rattle.std.proofs.Common.{◌≡◌, ℕ, zero, suc, ◌+◌, Bool, true, false, ◌&&◌, ◌||◌, ◌⊎◌, inl, inr, nat_eq, List, [], ◌∷◌, ◌++◌, length, refl, sym, ◌∙◌, ap, subst, arith}
use Rattle.std.specs.Prelude.{Option, Some, None, Ok, All, slice_get, slice_set, is_some}
use Rattle.std.proofs.lemmas.Bool.{eqb-true, eqb-false}
use Rattle.std.proofs.lemmas.List.{length-append}
use Rattle.std.proofs.lemmas.List.Elements.{All-push, All-weaker}
use Rattle.std.proofs.lemmas.Option.{slice_get_within}
use Rattle.typed_tree.specs.Types.{CType, same}
use Rattle.typed_tree.specs.TypedTree.{CGlobal, CProgram}
use Rattle.typed_tree.specs.Sizes.{IsType}
use Rattle.typing_expressions.specs.Names.{found}
use Rattle.typing_expressions.specs.Scene.{CScene, CEntry, CDeclared}
use Rattle.typing_expressions.specs.Expressions.{in_library}
use Rattle.typing_unit_keeps.specs.Units.{CFile, CDefinitions, number_or_zero, function_is_taken, same_types, agrees, is_again, with_function}
use Rattle.typing_unit_keeps.proofs.Steps.{All-slice_get, front_kept, at_end}
use Rattle.typing_unit_keeps.proofs.Scenes.{IsEntry, IsDeclared, Formed, StandsAs, prototype_by}
use Rattle.typing_unit_keeps.proofs.Laid.{set_found, set_other, set_size, All-slice_set}
use Rattle.typing_unit_keeps.proofs.InitialTypes.{same_is}
use Rattle.typing_unit_keeps.proofs.FoundNames.{found_front, found_last, found_place}
use Rattle.typing_unit_keeps.proofs.Files.{global_types, prototypes, IsThere, HasNumber, IsKnown, IsFile, EndsIn}
use Rattle.typing_unit_keeps.proofs.GlobalObjects.{All-front}

-- the same function later, which may be defined by then
pub record IsSame (d e : CDeclared) : Type 0 where
  pub name : e.name ≡ d.name
  pub number : e.number ≡ d.number
  pub result : e.result ≡ d.result
  pub params : e.params ≡ d.params
  pub defined : d.is_defined ≡ true → e.is_defined ≡ true

-- each function of one list is in the other
record AreSame (old new : List CDeclared) : Type 0 where
  later : (k : ℕ) (d : CDeclared) → slice_get old k ≡ Some d → (e : CDeclared) × (slice_get new k ≡ Some e) × IsSame d e

pub same_prototype : (d e : CDeclared) → IsSame d e → prototype_by e ≡ prototype_by d
same_prototype d e is = ap (λ r. record { result = r; params = e.params }) is.result ∙ ap (λ ps. record { result = d.result; params = ps }) is.params

same_self : (d : CDeclared) → IsSame d d
same_self d = record { name = refl; number = refl; result = refl; params = refl; defined = λ h. h }

there_still : (globals : List CGlobal) (old new : List CDeclared) (e : List ℕ × CEntry) → AreSame old new → IsThere globals old e → IsThere globals new e
there_still globals old new (x, CEntry.Object n t) same is = is
there_still globals old new (x, CEntry.Function k) same is =
    let later = same.later k is.declared is.there in
    record { declared = later.0; there = later.1; name = later.2.name ∙ is.name }

-- A scene in which the function of the name is declared with these types, at its place.
pub record Declares (numbers : CDefinitions) (f : CFile) (x : List ℕ) (t : CType) (params : List CType) (defines : Bool) (u : CScene) : Type 0 where
  pub formed : Formed u
  pub structs : u.structs ≡ f.scene.structs
  pub texts : u.texts ≡ f.scene.texts
  pub entries : All (IsThere f.globals u.functions) u.names
  pub numbered : All (HasNumber numbers) u.functions
  pub place : ℕ
  pub found_there : found x u.names ≡ Some (CEntry.Function place)
  pub declared : CDeclared
  pub there : slice_get u.functions place ≡ Some declared
  pub name : declared.name ≡ x
  pub result : declared.result ≡ t
  pub params_are : declared.params ≡ params
  pub is_defined : defines ≡ true → declared.is_defined ≡ true
  pub others : (k : ℕ) (d : CDeclared) → slice_get u.functions k ≡ Some d → d.is_defined ≡ true
      → ((k ≡ place) × (defines ≡ true)) ⊎ (e : CDeclared) × (slice_get f.scene.functions k ≡ Some e) × (e.is_defined ≡ true) × IsSame e d
  pub known : (y : List ℕ) → IsKnown f.scene y → IsKnown u y
  pub back : (p : CProgram) → EndsIn p u → EndsIn p f.scene

apart : true ≡ false → ⊥
apart h = cc

same_declared : (d e : CDeclared) → Some d ≡ Some e → d ≡ e
same_declared d e h = cc

-- ---- again

module _ (functions : List CDeclared) (k : ℕ) (d : CDeclared) (defines : Bool) (there : slice_get functions k ≡ Some d) where
  -- the function as it is then
  abbrev again : CDeclared
  again = record d { is_defined = d.is_defined || defines }

  abbrev changed : List CDeclared
  changed = slice_set functions k again

  or_true : (a b : Bool) → a ≡ true → a || b ≡ true
  or_true true b h = refl
  or_true false b h = absurd cc

  again_same : IsSame d again
  again_same = record { name = refl; number = refl; result = refl; params = refl; defined = λ h. or_true d.is_defined defines h }

  again_there : slice_get changed k ≡ Some again
  again_there = set_found functions k again (slice_get_within functions k d there)

  changed_same : AreSame functions changed
  changed_same = record { later = λ j e found. by j e found (nat_eq j k) refl }
    where
      by : (j : ℕ) (e : CDeclared) → slice_get functions j ≡ Some e → (b : Bool) → nat_eq j k ≡ b → (n : CDeclared) × (slice_get changed j ≡ Some n) × IsSame e n
      by j e found true test =
          let same_place = eqb-true j k test in
          let same : d ≡ e = same_declared d e (sym there ∙ sym (ap (slice_get functions) same_place) ∙ found) in
          (again, ap (slice_get changed) same_place ∙ again_there, subst (λ n. IsSame n again) same again_same)
      by j e found false test = (e, set_other functions j k again (eqb-false j k test) ∙ found, same_self e)

  changed_others : (j : ℕ) (e : CDeclared) → slice_get changed j ≡ Some e → e.is_defined ≡ true
      → ((j ≡ k) × (defines ≡ true)) ⊎ (n : CDeclared) × (slice_get functions j ≡ Some n) × (n.is_defined ≡ true) × IsSame n e
  changed_others j e found is = by (nat_eq j k) refl
    where
      before : (b : Bool) → defines ≡ b → j ≡ k → again ≡ e → ((j ≡ k) × (defines ≡ true)) ⊎ (n : CDeclared) × (slice_get functions j ≡ Some n) × (n.is_defined ≡ true) × IsSame n e
      before true test same_place same = inl (same_place, test)
      before false test same_place same =
          inr (d, ap (slice_get functions) same_place ∙ there, old d.is_defined (ap (λ b. d.is_defined || b) (sym test) ∙ ap (λ (n : CDeclared). n.is_defined) same ∙ is), subst (λ n. IsSame d n) same again_same)
        where
          old : (b : Bool) → b || false ≡ true → b ≡ true
          old true h = refl
          old false h = h

      by : (b : Bool) → nat_eq j k ≡ b → ((j ≡ k) × (defines ≡ true)) ⊎ (n : CDeclared) × (slice_get functions j ≡ Some n) × (n.is_defined ≡ true) × IsSame n e
      by true test =
          let same_place = eqb-true j k test in
          before defines refl same_place (same_declared again e (sym again_there ∙ sym (ap (slice_get changed) same_place) ∙ found))
      by false test = inr (e, sym (set_other functions j k again (eqb-false j k test)) ∙ found, is, same_self e)

known_still : (s u : CScene) (y : List ℕ) → AreSame s.functions u.functions → ((a : CEntry) → found y s.names ≡ Some a → found y u.names ≡ Some a) → IsKnown s y → IsKnown u y
known_still s u y same names is =
    let later = same.later is.place is.declared is.there in
    record { place = is.place; found_there = names (CEntry.Function is.place) is.found_there; declared = later.0; there = later.1; is_defined = later.2.defined is.is_defined }

-- functions that are the same later have the prototypes of the program
functions_back : (p : CProgram) (s u : CScene) → AreSame s.functions u.functions → ((k : ℕ) → slice_get s.called k ≡ Some true → slice_get u.called k ≡ Some true) → EndsIn p u
    → (k : ℕ) (d : CDeclared) → slice_get s.functions k ≡ Some d → slice_get s.called k ≡ Some true → slice_get (prototypes p.functions) d.number ≡ Some (prototype_by d)
functions_back p s u same called ends k d there flag =
    let later = same.later k d there in
    ap (slice_get (prototypes p.functions)) (sym later.2.number) ∙ ends.functions k later.0 later.1 (called k flag) ∙ ap Some (same_prototype d later.0 later.2)

types_same : (ts us : List CType) → same_types ts us ≡ true → ts ≡ us
types_same [] [] h = refl
types_same [] (u ∷ us) h = absurd cc
types_same (t ∷ ts) [] h = absurd cc
types_same (t ∷ ts) (u ∷ us) h = by (same t u) refl h (types_same ts us)
  where
    by : (b : Bool) → same t u ≡ b → b && same_types ts us ≡ true → (same_types ts us ≡ true → ts ≡ us) → t ∷ ts ≡ u ∷ us
    by true test h rest = ap (λ v. v ∷ ts) (same_is t u test) ∙ ap (λ vs. u ∷ vs) (rest h)
    by false test h rest = absurd cc

agreed : (d : CDeclared) (t : CType) (params : List CType) → agrees d (Ok t) params ≡ true → (d.result ≡ t) × (d.params ≡ params)
agreed d t params h = by (same d.result t) refl h
  where
    by : (b : Bool) → same d.result t ≡ b → b && same_types d.params params ≡ true → (d.result ≡ t) × (d.params ≡ params)
    by true test h = (same_is d.result t test, types_same d.params params h)
    by false test h = absurd cc

module _ (numbers : CDefinitions) (f : CFile) (is : IsFile numbers f) (line : ℕ) (x : List ℕ) (t : CType) (params : List CType) (defines : Bool) where
  abbrev s : CScene
  s = f.scene

  abbrev entered : Option CEntry → CScene
  entered o = with_function numbers s line x t params defines o

  declares_again : (k : ℕ) (d : CDeclared) (there : slice_get s.functions k ≡ Some d) → found x s.names ≡ Some (CEntry.Function k) → d.name ≡ x → agrees d (Ok t) params ≡ true
      → Declares numbers f x t params defines (record s { functions = changed s.functions k d defines there })
  declares_again k d there is_found name agrees_with = record {
    formed = record {
      structs = is.scene.structs;
      tags = is.scene.tags;
      names = is.scene.names;
      functions = All-slice_set (IsDeclared s.structs) s.functions k now is.scene.functions (record { result = old.result; params = old.params });
      called = is.scene.called ∙ sym (set_size s.functions k now);
      locals = is.scene.locals;
      scopes = is.scene.scopes;
    };
    structs = refl;
    texts = refl;
    entries = All-weaker (IsThere f.globals s.functions) (IsThere f.globals functions) (λ e. there_still f.globals s.functions functions e same) s.names is.entries;
    numbered = All-slice_set (HasNumber numbers) s.functions k now is.numbered (All-slice_get (HasNumber numbers) s.functions k d is.numbered there);
    place = k;
    found_there = is_found;
    declared = now;
    there = again_there s.functions k d defines there;
    name = name;
    result = (agreed d t params agrees_with).0;
    params_are = (agreed d t params agrees_with).1;
    is_defined = λ h. defined_by d.is_defined h;
    others = changed_others s.functions k d defines there;
    known = λ y known. known_still s (record s { functions = functions }) y same (λ a h. h) known;
    back = λ p ends. record {
      extends = ends.extends;
      objects = ends.objects;
      texts = ends.texts;
      functions = functions_back p s (record s { functions = functions }) same (λ k h. h) ends;
    };
  }
    where
      now : CDeclared
      now = again s.functions k d defines there

      functions : List CDeclared
      functions = changed s.functions k d defines there

      old : IsDeclared s.structs d
      old = All-slice_get (IsDeclared s.structs) s.functions k d is.scene.functions there

      same : AreSame s.functions functions
      same = changed_same s.functions k d defines there

      defined_by : (b : Bool) → defines ≡ true → b || defines ≡ true
      defined_by true h = refl
      defined_by false h = h

  declares_new : found x s.names ≡ None → IsType s.structs t → All (IsType s.structs) params → Declares numbers f x t params defines (entered None)
  declares_new is_new type types = record {
    formed = record {
      structs = is.scene.structs;
      tags = is.scene.tags;
      names = All-push (λ e. IsEntry s.structs e.1) s.names (x, CEntry.Function (length s.functions)) is.scene.names tt;
      functions = All-push (IsDeclared s.structs) s.functions new is.scene.functions (record { result = type; params = types });
      called =
          let flags : length (s.called ++ false ∷ []) ≡ length s.called + 1 = length-append s.called (false ∷ []) in
          let more : length (s.functions ++ new ∷ []) ≡ length s.functions + 1 = length-append s.functions (new ∷ []) in
          let same = is.scene.called in
          omega arith;
      locals = is.scene.locals;
      scopes = is.scene.scopes;
    };
    structs = refl;
    texts = refl;
    entries = All-push (IsThere f.globals functions) s.names (x, CEntry.Function (length s.functions))
        (All-weaker (IsThere f.globals s.functions) (IsThere f.globals functions) (λ e. there_still f.globals s.functions functions e same) s.names is.entries)
        (record { declared = new; there = at_end s.functions [] new; name = refl });
    numbered = All-push (HasNumber numbers) s.functions new is.numbered refl;
    place = length s.functions;
    found_there = found_last x s.names (CEntry.Function (length s.functions)) is_new;
    declared = new;
    there = at_end s.functions [] new;
    name = refl;
    result = refl;
    params_are = refl;
    is_defined = λ h. h;
    others = λ k d there is_defined. last k d is_defined (last_or_front s.functions new k d there);
    known = λ y known. known_still s (entered None) y same (λ a h. found_front y s.names ((x, CEntry.Function (length s.functions)) ∷ []) a h) known;
    back = λ p ends. record {
      extends = ends.extends;
      objects = All-front (λ e. StandsAs (global_types p.globals) e.1) s.names ((x, CEntry.Function (length s.functions)) ∷ []) ends.objects;
      texts = ends.texts;
      functions = functions_back p s (entered None) same (λ k h. front_kept s.called (false ∷ []) k true h) ends;
    };
  }
    where
      new : CDeclared
      new = record { name = x; line = line; number = number_or_zero (found x numbers); result = t; params = params; is_defined = defines }

      functions : List CDeclared
      functions = s.functions ++ new ∷ []

      same : AreSame s.functions functions
      same = record { later = λ k d there. (d, front_kept s.functions (new ∷ []) k d there, same_self d) }

      last_or_front : (ds : List CDeclared) (n : CDeclared) (k : ℕ) (d : CDeclared) → slice_get (ds ++ n ∷ []) k ≡ Some d → (slice_get ds k ≡ Some d) ⊎ ((k ≡ length ds) × (n ≡ d))
      last_or_front [] n zero d h = inr (refl, same_declared n d h)
      last_or_front [] n (suc k) d h = absurd cc
      last_or_front (e ∷ ds) n zero d h = inl h
      last_or_front (e ∷ ds) n (suc k) d h = by (last_or_front ds n k d h)
        where
          by : (slice_get ds k ≡ Some d) ⊎ ((k ≡ length ds) × (n ≡ d)) → (slice_get (e ∷ ds) (suc k) ≡ Some d) ⊎ ((suc k ≡ length (e ∷ ds)) × (n ≡ d))
          by (inl there) = inl there
          by (inr end) = inr (ap suc end.0, end.1)

      last : (k : ℕ) (d : CDeclared) → d.is_defined ≡ true → (slice_get s.functions k ≡ Some d) ⊎ ((k ≡ length s.functions) × (new ≡ d))
          → ((k ≡ length s.functions) × (defines ≡ true)) ⊎ (e : CDeclared) × (slice_get s.functions k ≡ Some e) × (e.is_defined ≡ true) × IsSame e d
      last k d is_defined (inl there) = inr (d, there, is_defined, same_self d)
      last k d is_defined (inr end) = inl (end.0, ap (λ (n : CDeclared). n.is_defined) end.1 ∙ is_defined)

  entered_again : (k : ℕ) (d : CDeclared) (there : slice_get s.functions k ≡ Some d) → entered (Some (CEntry.Function k)) ≡ record s { functions = changed s.functions k d defines there }
  entered_again k d there = rw there refl

  agrees_again : (k : ℕ) (d : CDeclared) → slice_get s.functions k ≡ Some d → is_again s.functions (Some (CEntry.Function k)) (Ok t) params ≡ true → agrees d (Ok t) params ≡ true
  agrees_again k d there h = rw there at h

  pub declares : function_is_taken s defines (found x s.names) (is_some (in_library x)) ≡ false → is_again s.functions (found x s.names) (Ok t) params ≡ true → IsType s.structs t → All (IsType s.structs) params
      → Declares numbers f x t params defines (with_function numbers s line x t params defines (found x s.names))
  declares is_free same type types = by (found x s.names) refl is_free same
    where
      by : (o : Option CEntry) → found x s.names ≡ o → function_is_taken s defines o (is_some (in_library x)) ≡ false → is_again s.functions o (Ok t) params ≡ true → Declares numbers f x t params defines (entered o)
      by None is_found is_free same = declares_new is_found type types
      by (Some (CEntry.Object n u)) is_found is_free same = absurd (apart is_free)
      by (Some (CEntry.Function k)) is_found is_free same =
          let place = found_place x s.names (CEntry.Function k) is_found in
          let is_there = All-slice_get (IsThere f.globals s.functions) s.names place.0 (x, CEntry.Function k) is.entries place.1 in
          subst (Declares numbers f x t params defines) (sym (entered_again k is_there.declared is_there.there))
          (declares_again k is_there.declared is_there.there is_found is_there.name (agrees_again k is_there.declared is_there.there same))
