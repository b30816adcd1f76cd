-- What typing gives for initializers is accepted.
use Rattle.std.proofs.Common.{◌≡◌, ◌≤◌, ℕ, suc, Bool, true, false, not, ◌&&◌, ◌||◌, List, [], ◌∷◌, ◌++◌, length, refl, sym, ap, ◌∙◌, subst}
use Rattle.std.specs.Prelude.{Option, Some, None, Ok, Err, nat_lt, is_some, if◌then◌else◌}
use Rattle.std.proofs.lemmas.List.{append-nil}
use Rattle.c_words.specs.declared.place.At.{At}
use Rattle.syntax_tree.specs.Syntax.{ExpressionTree, InitializerTree, InitializerTrees}
use Rattle.typed_tree.specs.Types.{CType, is_array, is_struct}
use Rattle.typed_tree.specs.TypedTree.{CExpr, CInitial, CStruct, type_of}
use Rattle.typed_tree.specs.TypedViews.{initials as listed}
use Rattle.typed_tree.specs.TypedRules.{IsFilled, part_type}
use Rattle.typing_operators.specs.declared.error.TypeError.TheVariants.{BadType}
use Rattle.typing_operators.specs.Rule.{Rule, ◌>>=◌}
use Rattle.typing_operators.specs.Conversions.{decayed, given, is_void}
use Rattle.typing_operators.specs.Operators.{copied_from}
use Rattle.typing_expressions.specs.Scene.{CScene}
use Rattle.typing_expressions.specs.Expressions.{typed, joined}
use Rattle.typing_expressions.specs.Initializers.{value_bytes, allowed, string_of, room_of, aggregate_from, value_from, part_from, looked_at, all_looked_at, part_or_excess, initial, initials, struct_copied, initialized}
use Rattle.typing_accepted.specs.AcceptanceDeclarators.{IsAllowed, Initializes, InitializesParts, IsInitializedBy}
use Rattle.typing_accepted.proofs.Steps.{and_not, passes, bound, same_ok, not_less}
use Rattle.typing_accepted.proofs.Operands.{decayed_flat}
use Rattle.typing_accepted.proofs.FromRest.{given_from, copied_is}
use Rattle.typing_accepted.proofs.FromTyped.{from_typed}
use Rattle.typing_accepted.proofs.ToTyped.{reads, past_one}
use Rattle.typing_accepted.proofs.ToInitials.{struct_no_array}

-- a string for an array of char
record IsString (t : CType) (e : ExpressionTree) (text : At × List ℕ) : Type 0 where
  count : ℕ
  pieces : List (List ℕ)
  array : t ≡ CType.Array CType.Char count
  is : e ≡ ExpressionTree.Text text.0 pieces
  bytes : joined pieces ≡ text.1

string_is : (t : CType) (e : ExpressionTree) (text : At × List ℕ) → string_of t e ≡ Some text → IsString t e text
string_is (CType.Array CType.Char n) (ExpressionTree.Text at pieces) text is =
    let pair : (at, joined pieces) ≡ text = cc in
    record { count = n; pieces = pieces; array = refl; is = ap (λ p. ExpressionTree.Text p.0 pieces) pair; bytes = ap (λ p. p.1) pair }
string_is _ _ text is = absurd cc

module _ (is_global : Bool) where
  allowed_is : (structs : List CStruct) (line : ℕ) (v w : CExpr) → allowed is_global structs line v ≡ Ok w → IsAllowed is_global structs v × (v ≡ w)
  allowed_is structs line v w is =
      let h = passes (is_global && not (is_some (value_bytes structs v))) _ _ w is in
      ((λ global. and_not is_global (is_some (value_bytes structs v)) global h.0), same_ok v w h.1)

  abbrev Is : CScene → CType → InitializerTree → CInitial × CScene → Type 0
  Is s t i r = Initializes is_global s t i r.0 r.1

  value_is : (s : CScene) (line : ℕ) (t : CType) (e : ExpressionTree) (x : CExpr × CScene) (r : CInitial × CScene) → typed s e ≡ Ok x → value_from is_global line t x ≡ Ok r → Is s t (InitializerTree.Expression e) r
  value_is s line t e x r typed_is is =
      let v = bound (given line t x.0) _ r is in
      let w = bound (allowed is_global x.1.structs line v.0) _ r v.2 in
      let a = from_typed s e x typed_is in
      let g = given_from line t x.0 v.0 (reads _ _ _ _ a).written v.1 in
      let ok = allowed_is x.1.structs line v.0 w.0 w.1 in
      subst (Is s t (InitializerTree.Expression e)) (ap (λ z. (CInitial.Value z, x.1)) ok.1 ∙ same_ok (CInitial.Value w.0, x.1) r w.2) (Initializes.value a g.becomes g.given ok.0)

  no_aggregate : (line : ℕ) (x : CExpr × CScene) (r : CInitial × CScene) → aggregate_from line x ≡ Ok r → ⊥
  no_aggregate line x r is =
      let h = passes (is_void (type_of x.0)) (BadType line 19) _ r is in
      let no : (let o : Rule (CInitial × CScene) = Err (BadType line 20) in o) ≡ Ok r = h.1 in cc

  no_string : (s : CScene) (line : ℕ) (t : CType) (e : ExpressionTree) (r : CInitial × CScene) → part_from is_global s line t e None ≡ Ok r → Is s t (InitializerTree.Expression e) r
  no_string s line t e r is =
      let x = bound (typed s e) _ r is in
      by (is_array t || is_struct t) x.0 x.1 x.2
    where
      by : (b : Bool) (x : CExpr × CScene) → typed s e ≡ Ok x → (if b then aggregate_from line x else value_from is_global line t x) ≡ Ok r → Is s t (InitializerTree.Expression e) r
      by true x typed_is is = absurd (no_aggregate line x r is)
      by false x typed_is is = value_is s line t e x r typed_is is

  string_from : (s : CScene) (line : ℕ) (t : CType) (e : ExpressionTree) (text : At × List ℕ) (r : CInitial × CScene) → string_of t e ≡ Some text → part_from is_global s line t e (Some text) ≡ Ok r → Is s t (InitializerTree.Expression e) r
  string_from s line t e text r found is =
      let h = passes (nat_lt (room_of t) (length text.1)) (BadType line 20) _ r is in
      let string = string_is t e text found in
      let room = not_less _ _ (subst (λ bytes. nat_lt (room_of t) (length bytes) ≡ false) (sym string.bytes) h.0) in
      let filled : IsFilled t (joined string.pieces) = record { count = string.count; array = string.array; room = subst (λ w. length (joined string.pieces) ≤ room_of w) string.array room } in
      let one : Is s t (InitializerTree.Expression (ExpressionTree.Text text.0 string.pieces)) (CInitial.Text text.0 (joined string.pieces), s) = Initializes.string filled in
      subst (Is s t (InitializerTree.Expression e)) (ap (λ bytes. (CInitial.Text text.0 bytes, s)) string.bytes ∙ same_ok (CInitial.Text text.0 text.1, s) r h.1)
      (subst (λ f. Is s t (InitializerTree.Expression f) (CInitial.Text text.0 (joined string.pieces), s)) (sym string.is) one)

  expression_from : (s : CScene) (line : ℕ) (t : CType) (e : ExpressionTree) (r : CInitial × CScene) → (o : Option (At × List ℕ)) → string_of t e ≡ o → part_from is_global s line t e o ≡ Ok r → Is s t (InitializerTree.Expression e) r
  expression_from s line t e r None found is = no_string s line t e r is
  expression_from s line t e r (Some text) found is = string_from s line t e text r found is

  record PartsAre (s : CScene) (t : CType) (i : ℕ) (xs : InitializerTrees) (done : List CInitial) (r : List CInitial × CScene) : Type 0 where
    these : List CInitial
    is : r.0 ≡ done ++ these
    have : InitializesParts is_global s t i xs these r.1

  nothing_more : (s : CScene) (line : ℕ) (r : List CInitial × CScene) (looked : Rule CScene) → (looked >>= λ u. let o : Rule (List CInitial × CScene) = Err (BadType line 20) in o) ≡ Ok r → ⊥
  nothing_more s line r (Ok u) is = let h : (let o : Rule (List CInitial × CScene) = Err (BadType line 20) in o) ≡ Ok r = is in cc
  nothing_more s line r (Err e) is = cc

  braced_from : (s : CScene) (line : ℕ) (t : CType) (at : At) (parts : InitializerTrees) (r : CInitial × CScene) → (b : Bool) → is_array t || is_struct t ≡ b
      → ((q : List CInitial × CScene) → initials is_global [] s line t 0 parts ≡ Ok q → PartsAre s t 0 parts [] q)
      → (if b then (initials is_global [] s line t 0 parts >>= λ x. Ok (CInitial.Braces at (listed x.0), x.1)) else (all_looked_at s line parts >>= λ u. Err (BadType line 20))) ≡ Ok r
      → Is s t (InitializerTree.Braced at parts) r
  braced_from s line t at parts r true aggregate each is =
      let x = bound (initials is_global [] s line t 0 parts) _ r is in
      let all = each x.0 x.1 in
      subst (Is s t (InitializerTree.Braced at parts)) (same_ok (CInitial.Braces at (listed x.0.0), x.0.1) r x.2)
      (Initializes.braces aggregate (subst (λ l. InitializesParts is_global s t 0 parts l x.0.1) (sym all.is) all.have))
  braced_from s line t at parts r false aggregate each is = let u = bound (all_looked_at s line parts) _ r is in absurd (no u.2)
    where
      no : (let o : Rule (CInitial × CScene) = Err (BadType line 20) in o) ≡ Ok r → ⊥
      no h = cc

  part_by : (s : CScene) (line : ℕ) (t : CType) (i : ℕ) (x : InitializerTree) (xs : InitializerTrees) (done : List CInitial) (r : List CInitial × CScene) → (o : Option CType) → part_type s.structs t i ≡ o
      → ((w : CType) (q : CInitial × CScene) → initial is_global s line w x ≡ Ok q → Is s w x q)
      → ((v : CInitial) (u : CScene) → initials is_global (done ++ v ∷ []) u line t (suc i) xs ≡ Ok r → PartsAre u t (suc i) xs (done ++ v ∷ []) r)
      → part_or_excess o (λ u. initial is_global s line u x) (λ v u. initials is_global (done ++ v ∷ []) u line t (suc i) xs) (looked_at s line x >>= λ u. all_looked_at u line xs) line ≡ Ok r
      → PartsAre s t i (InitializerTrees.more x xs) done r
  part_by s line t i x xs done r None type first rest is = absurd (nothing_more s line r (looked_at s line x >>= λ u. all_looked_at u line xs) is)
  part_by s line t i x xs done r (Some w) type first rest is =
      let y = bound (initial is_global s line w x) _ r is in
      let more = rest y.0.0 y.0.1 y.2 in
      record { these = y.0.0 ∷ more.these; is = more.is ∙ past_one done y.0.0 more.these; have = InitializesParts.part type (first w y.0 y.1) more.have }

  mutual
    pub from_initial : (s : CScene) (line : ℕ) (t : CType) (i : InitializerTree) (r : CInitial × CScene) → initial is_global s line t i ≡ Ok r → Is s t i r
    from_initial s line t (InitializerTree.Expression e) r is = expression_from s line t e r _ refl is
    from_initial s line t (InitializerTree.Braced at parts) r is = braced_from s line t at parts r _ refl (λ q h. from_initials s line t 0 parts [] q h) is

    from_initials : (s : CScene) (line : ℕ) (t : CType) (i : ℕ) (xs : InitializerTrees) (done : List CInitial) (r : List CInitial × CScene) → initials is_global done s line t i xs ≡ Ok r → PartsAre s t i xs done r
    from_initials s line t i InitializerTrees.none done r is = subst (PartsAre s t i InitializerTrees.none done) (same_ok (done, s) r is) (record { these = []; is = sym (append-nil done); have = InitializesParts.no_part })
    from_initials s line t i (InitializerTrees.more x xs) done r is =
        part_by s line t i x xs done r _ refl (λ w q h. from_initial s line w x q h) (λ v u h. from_initials u line t (suc i) xs (done ++ v ∷ []) r h) is

  copied_from_it : (s : CScene) (line : ℕ) (t : CType) (e : ExpressionTree) (r : CInitial × CScene) → is_struct t ≡ true → struct_copied is_global s line t (InitializerTree.Expression e) ≡ Ok r → IsInitializedBy is_global s t (InitializerTree.Expression e) r.0 r.1
  copied_from_it s line t e r struct is =
      let x = bound (typed s e) _ r is in
      let value = passes (is_void (type_of x.0.0)) (BadType line 19) _ r x.2 in
      let v = bound (allowed is_global x.0.1.structs line (decayed x.0.0)) _ r value.1 in
      let w = bound (copied_from line t x.0.0) _ r v.2 in
      let c = copied_is line t x.0.0 w.0 struct w.1 in
      let ok = allowed_is x.0.1.structs line (decayed x.0.0) v.0 v.1 in
      let no = struct_no_array (type_of x.0.0) (subst (λ y. is_struct y ≡ true) (sym c.0.same_struct) struct) in
      let a = from_typed s e x.0 x.1 in
      let all : (CInitial.Value x.0.0, x.0.1) ≡ r = ap (λ z. (CInitial.Value z, x.0.1)) c.1 ∙ same_ok (CInitial.Value w.0, x.0.1) r w.2 in
      subst (λ q. IsInitializedBy is_global s t (InitializerTree.Expression e) q.0 q.1) all
      (IsInitializedBy.copy a c.0 (subst (λ y. IsAllowed is_global x.0.1.structs y) (decayed_flat x.0.0 no.0) ok.0))

  pub from_initialized : (s : CScene) (line : ℕ) (t : CType) (i : InitializerTree) (r : CInitial × CScene) → initialized is_global s line t i ≡ Ok r → IsInitializedBy is_global s t i r.0 r.1
  from_initialized s line t i r is = by (is_struct t) refl i is
    where
      by : (b : Bool) → is_struct t ≡ b → (i : InitializerTree) → (if b then struct_copied is_global s line t i else initial is_global s line t i) ≡ Ok r → IsInitializedBy is_global s t i r.0 r.1
      by true struct (InitializerTree.Expression e) is = copied_from_it s line t e r struct is
      by true struct (InitializerTree.Braced at parts) is = IsInitializedBy.parts (from_initial s line t (InitializerTree.Braced at parts) r is)
      by false struct i is = IsInitializedBy.parts (from_initial s line t i r is)
