-- What parts of a file's typing come to.
use Rattle.std.proofs.Common.{◌≡◌, ℕ, ◌<◌, ◌≤◌, List, [], ◌∷◌, ◌++◌, length, drop, get_or, drop-cons, add-one, ◌+◌, zero, suc, cond, refl, sym, ◌∙◌, ap, Bool, true, false, arith}
use Rattle.std.proofs.lemmas.Grind.{common_steps}
use Rattle.typing_operators.specs.declared.error.TypeError.{TypeError}
use Rattle.typing_operators.specs.declared.error.TypeError.TheVariants as errors
use Rattle.typing_operators.specs.declared.error.TypeError.TheVariants.{Twice, BadType, TooManyParams, TooManyFunctions}
use Rattle.typing_operators.specs.Rule.{Rule, ◌>>=◌, Fails, refuse}
use Rattle.std.specs.Prelude.{◌≢◌, ◌&&◌, ◌||◌, map, is_some, Option, Some, None, Ok, Err, nat_lt, nat_le, slice_get, slice_set}
use Rattle.std.proofs.lemmas.List.{map_push, map-set, length-map}
use Rattle.c_words.specs.declared.place.At.{At}
use Rattle.syntax_tree.specs.Syntax.{InitializerTree, BlockTree}
use Rattle.typed_tree.specs.Types.{CType, same}
use Rattle.typing_expressions.specs.declared.scene.Entry.{Entry}
use Rattle.typing_expressions.specs.Names.{found}
use Rattle.typed_tree.specs.declared.types.Ty.{Ty}
use Rattle.typed_tree.specs.TypesViewed.{ty_of}
use Rattle.typing_expressions.specs.declared.parts.Param.{Param}
use Rattle.typing_expressions.specs.declared.scene.Declared.{Declared}
use Rattle.typing_expressions.specs.Scene.{CScene, CDeclared, named_by, entry_of, names_of, declared_of}
use Rattle.typing_expressions.specs.Parts.{CParam, CPart, param_of, is_incomplete, has_function, lacks_size}
use Rattle.typing_declarations.specs.Declarators.{has_many_params, completed}
use Rattle.typing_unit_keeps.specs.Units.{CFile, CDefinitions, same_types, param_types, declared_by, declared_object, defined_by, no_function, undefined, function_type, gives_aggregate, takes_struct, initialized_global, object_is_taken, file_type, is_main}
use Rattle.typing_unit.specs.UnitSteps.{begins_with_function, is_missing, defined_once, defined_again, defined_by_again, agreed, made_from, function_fault, with_object}
use Rattle.typing_unit.proofs.Seen.{found_seen, is_some_map, none_if, IsValue, same_value}

pub not_same : (ts us : List CType) → length ts ≢ length us → same_types ts us ≡ false
not_same [] [] h = absurd (h refl)
not_same [] (u ∷ us) h = refl
not_same (t ∷ ts) [] h = refl
not_same (t ∷ ts) (u ∷ us) h = by (same t u) (not_same ts us (λ e. h (omega (arith, e))))
  where
    by : (b : Bool) → same_types ts us ≡ false → (b && same_types ts us) ≡ false
    by true e = e
    by false e = refl

module _ (numbers : CDefinitions) (f : CFile) (at : At) (x : List ℕ) (base : CType) where
  pub object_declared : (init : Option InitializerTree) (ps : List CPart) → begins_with_function ps ≡ false → declared_by numbers f at x base init ps ≡ declared_object f at x base ps init
  object_declared init [] h = refl
  object_declared init (CPart.Pointer ∷ ps) h = refl
  object_declared init (CPart.Array n ∷ ps) h = refl
  object_declared init (CPart.Unsized ∷ ps) h = refl
  object_declared init (CPart.Function params ∷ ps) h = cc

  pub nothing_defined : (body : BlockTree) (ps : List CPart) → begins_with_function ps ≡ false → defined_by numbers f at x base body ps ≡ no_function f at x base ps
  nothing_defined body [] h = refl
  nothing_defined body (CPart.Pointer ∷ ps) h = refl
  nothing_defined body (CPart.Array n ∷ ps) h = refl
  nothing_defined body (CPart.Unsized ∷ ps) h = refl
  nothing_defined body (CPart.Function params ∷ ps) h = cc

-- names of a file
pub name_pushed : (es : List (List ℕ × Entry)) (x : List ℕ) (e : Entry) → names_of (es ++ (x, e) ∷ []) ≡ names_of es ++ (x, entry_of e) ∷ []
name_pushed es x e = map_push (named_by entry_of) es (x, e)

pub free_entry : (x : List ℕ) (es : List (List ℕ × Entry)) → is_some (found x (names_of es)) ≡ false → found x es ≡ None
free_entry x es h = none_if (found x es) (sym (is_some_map entry_of (found x es)) ∙ sym (ap is_some (found_seen entry_of x es)) ∙ h)

pub free_name : (x : List ℕ) (es : List (List ℕ × Entry)) (b : Bool) → (is_some (found x (names_of es)) || b) ≡ false → found x es ≡ None
free_name x es b h = free_entry x es (by (is_some (found x (names_of es))) h)
  where
    by : (c : Bool) → (c || b) ≡ false → c ≡ false
    by true e = e
    by false e = refl

pub none_called : (fs : List CDeclared) → None ≡ undefined fs []
none_called [] = refl
none_called (f ∷ fs) = refl

-- whether the next function is missing
pub next_missing : (fs : List Declared) (called : List Bool) (i : ℕ) (f : Declared) (b : Bool) → i < length fs → i < length called → f ≡ get_or fs i f
    → is_missing (declared_of f) (get_or called i false) ≡ b
    → undefined (map declared_of (drop i fs)) (drop i called) ≡ cond b (Some (declared_of f)) (undefined (map declared_of (drop (i + 1) fs)) (drop (i + 1) called))
next_missing fs called i f b h k is e =
    let rest = λ (c : Bool). cond c (Some (declared_of f)) (undefined (map declared_of (drop (suc i) fs)) (drop (suc i) called)) in
    rw add-one
    (ap (λ (xs : List Declared). undefined (map declared_of xs) (drop i called)) (drop-cons fs i f h ∙ ap (λ (g : Declared). g ∷ drop (suc i) fs) (sym is))
    ∙ ap (λ (cs : List Bool). undefined (declared_of f ∷ map declared_of (drop (suc i) fs)) cs) (drop-cons called i false k)
    ∙ ap rest e)

pub other_count : (ts : List Ty) (ps : List Param) → length ts ≢ length ps → false ≡ same_types (map ty_of ts) (param_types (map param_of ps))
other_count ts ps h =
    let a = length-map ts ty_of in
    let b = length-map (map param_of ps) (λ (p : CParam). p.ty) in
    let d = length-map ps param_of in
    sym (not_same (map ty_of ts) (param_types (map param_of ps)) (λ e. h (omega (arith, e, a, b, d))))

got : (fs : List Declared) (k : ℕ) (f : Declared) → k < length fs → f ≡ get_or fs k f → slice_get (map declared_of fs) k ≡ Some (declared_of f)
got [] k f h e = absurd (omega (arith, h))
got (g ∷ gs) zero f h e = ap (λ (x : Declared). let o : Option CDeclared = Some (declared_of x) in o) (sym e)
got (g ∷ gs) (suc k) f h e = got gs k f (omega (arith, h)) e

fails_by : {A : Type 0} (e : TypeError) (r : Rule A) → r ≡ Err e → Fails e r
fails_by errors.Memory r h = tt
fails_by (errors.Unknown l x) r h = h
fails_by (errors.Twice l x) r h = h
fails_by (errors.TooManyParams l) r h = h
fails_by (errors.TooManyFunctions l) r h = h
fails_by (errors.BadType l n) r h = h
fails_by (errors.TooLarge l n) r h = h
fails_by errors.NoMain r h = h

-- a function that is defined once more, or still not
pub defined_now : (fs : List Declared) (k : ℕ) (f g : Declared) (b : Bool) → k < length fs → f ≡ get_or fs k f → declared_of g ≡ defined_once (declared_of f) b
    → map declared_of (slice_set fs k g) ≡ defined_again (map declared_of fs) k b
defined_now fs k f g b h e d =
    map-set declared_of fs k g ∙ ap (slice_set (map declared_of fs) k) d ∙ sym (ap (defined_by_again (map declared_of fs) k b) (got fs k f h e))

pub no_more : (bs : List Bool) (i : ℕ) → length bs ≤ i → drop i bs ≡ []
no_more bs i h = grind (arith, common_steps)

-- the rules of a function's declarator, as the first that is broken
abbrev unless : Option TypeError → Rule CType → Rule CType
unless None r = r
unless (Some e) r = Err e

six_rules : (a b c d e f : Bool) (p q r s t u : TypeError) (go : Rule CType)
    → refuse a p (refuse b q (refuse c r (refuse d s (refuse e t (refuse f u go))))) ≡ unless (cond a (Some p) (cond b (Some q) (cond c (Some r) (cond d (Some s) (cond e (Some t) (cond f (Some u) None)))))) go
six_rules true b c d e f p q r s t u go = refl
six_rules false true c d e f p q r s t u go = refl
six_rules false false true d e f p q r s t u go = refl
six_rules false false false true e f p q r s t u go = refl
six_rules false false false false true f p q r s t u go = refl
six_rules false false false false false true p q r s t u go = refl
six_rules false false false false false false p q r s t u go = refl

module _ (f : CFile) (line : ℕ) (x : List ℕ) (base : CType) (params : List CParam) (ps : List CPart) (defines has_initializer : Bool) where
  abbrev rest : Rule CType
  rest = agreed f.scene line x params defines (made_from f.scene.structs line base ps)

  type_is : function_type f line x base params ps defines has_initializer ≡ unless (function_fault f line base params ps defines has_initializer) rest
  type_is =
      six_rules (nat_lt 8 (length params) || has_many_params ps) (defines && nat_le 1000 (length f.functions)) (is_incomplete f.scene.structs false base ps)
      (has_function ps || gives_aggregate base ps || takes_struct params) (lacks_size ps) has_initializer
      (TooManyParams line) (TooManyFunctions line) (BadType line 1) (BadType line 2) (BadType line 3) (BadType line 4) rest

  pub faulty : (e : TypeError) → Some e ≡ function_fault f line base params ps defines has_initializer → Fails e (function_type f line x base params ps defines has_initializer)
  faulty e h = fails_by e (function_type f line x base params ps defines has_initializer) (type_is ∙ sym (ap (λ (o : Option TypeError). unless o rest) h))

  pub faultless : None ≡ function_fault f line base params ps defines has_initializer → function_type f line x base params ps defines has_initializer ≡ rest
  faultless h = type_is ∙ sym (ap (λ (o : Option TypeError). unless o rest) h)

scene_free : (f : CFile) (s : CScene) (line : ℕ) (x : List ℕ) (t : CType) (init : Option InitializerTree) → initialized_global (record f { scene = s }) s line x t init ≡ initialized_global f s line x t init
scene_free f s line x t None = refl
scene_free f s line x t (Some i) = refl

-- an object whose name is free and whose type is known
pub object_done : (f g : CFile) (at : At) (x : List ℕ) (base : CType) (ps : List CPart) (init : Option InitializerTree) (t : CType) (qs : List CPart)
    → object_is_taken f.scene x ≡ false → IsValue (completed base init ps) qs → file_type f.scene.structs at.line (is_main x) base qs ≡ Ok t → IsValue (with_object f x t) g
    → initialized_global g g.scene at.line x t init ≡ declared_object f at x base ps init
object_done f g at x base ps init t qs free c typed added =
    let s = (with_object f x t).scene in
    ap (λ (h : CFile). initialized_global h h.scene at.line x t init) (sym (same_value _ _ added)) ∙ scene_free f s at.line x t init
    ∙ sym (ap (λ (b : Bool). refuse b (Twice at.line x) (file_type f.scene.structs at.line (is_main x) base (completed base init ps) >>= λ u. initialized_global f (with_object f x u).scene at.line x u init)) free
    ∙ ap (λ (rs : List CPart). file_type f.scene.structs at.line (is_main x) base rs >>= λ u. initialized_global f (with_object f x u).scene at.line x u init) (same_value _ _ c)
    ∙ ap (λ (r : Rule CType). r >>= λ u. initialized_global f (with_object f x u).scene at.line x u init) typed)
