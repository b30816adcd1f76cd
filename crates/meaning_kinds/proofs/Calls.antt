-- Calls and whole runs of a typed program.
use Rattle.std.proofs.Common.{◌≡◌, ℕ, zero, suc, ◌+◌, Bool, true, false, List, [], ◌∷◌, length, Option, Some, None, refl, sym, subst, arith}
use Rattle.std.specs.Prelude.{All, map, take, nat_le, slice_get, slice_index_or, if◌then◌else◌}
use Rattle.std.proofs.lemmas.List.Elements.{All-nil, All-cons, All-head, All-tail}
use Rattle.std.proofs.lemmas.Option.{slice_get_within, get_or_from_slice_get}
use Rattle.bb_words.specs.Answers.{Goes, Ends}
use Rattle.bb_words.specs.declared.kinds.ReportKind.TheVariants.{Depth}
use Rattle.size_table.specs.declared.memory_map.TheConstants.{MOST_CALLS}
use Rattle.block_layout.specs.Layout.{Placed, layout, position_of}
use Rattle.block_layout.specs.Objects.{block_items}
use Rattle.typed_tree.specs.Types.{CType, IsScalar}
use Rattle.typed_tree.specs.TypedTree.{CLocal, CFunction, CProgram}
use Rattle.typed_tree.specs.TypedRules.{IsResult, prototype_of}
use Rattle.typed_tree.specs.TypedLaws.{AggregatesHaveObjects}
use Rattle.typed_tree.specs.Typed.{IsFunction, Typed, stmt_refers}
use Rattle.source_meaning.specs.declared.values.Value.{Value}
use Rattle.source_meaning.specs.declared.values.Value.TheVariants.{Num}
use Rattle.source_meaning.specs.declared.values.Slot.TheVariants.{Kept, Lies}
use Rattle.source_meaning.specs.declared.values.Signal.{Signal}
use Rattle.source_meaning.specs.declared.values.Signal.TheVariants.{Falls, Broke, Continued, Gave}
use Rattle.source_meaning.specs.declared.values.Ending.TheVariants.{Exited, Reported, Cut}
use Rattle.source_meaning.specs.Sites.{first_site}
use Rattle.source_meaning.specs.States.{State, Runs, local_place}
use Rattle.source_meaning.specs.Meaning.{execute}
use Rattle.source_meaning.specs.Runs.{zero_of, slot_of, slots_from, pass, given, count_call, with_locals, call_function, call_if_any, call_past, calls, first_state, source, outcome_of}
use Rattle.meaning_kinds.specs.Kinds.{HasKind, HaveKinds, SlotFits, Sound, SignalFits, NotKind, KeepsKinds, CallsKeepKinds, Never}
use Rattle.meaning_kinds.specs.Laws.{TypedKeepsKinds, ProgramsKeepKinds, ExpressionsKeepKinds, StatementsKeepKinds, DeclarationsKeepKinds, StartsKeepKinds, BodiesReferToBlocks}
use Rattle.meaning_kinds.proofs.ValueKinds.{not_there, as_number, as_pointer, as_other, Anything, gives_end, keeps_value, keeps_end, keeps_then, keeps_doing}
use Rattle.meaning_kinds.proofs.Acts.{enter_gives, with_number_gives}
use Rattle.meaning_kinds.proofs.Places.{same_thing, write_kind, local_fits}
use Rattle.meaning_kinds.proofs.Operators.{number_by}
use Rattle.meaning_kinds.proofs.Settings.{Setting, kept_parts}
use Rattle.meaning_kinds.proofs.Expressions.{run_kind}
use Rattle.meaning_kinds.proofs.Statements.{declare_kind, start_kind, execute_kind}

all_get : {X : Type 0} (P : X → Type 0) (xs : List X) (k : ℕ) (x : X) → All P xs → slice_get xs k ≡ Some x → P x
all_get P xs k x all found = subst P (get_or_from_slice_get xs k x x found) (all k x (slice_get_within xs k x found))

-- ---- The locals of a call

zero_kind : (t : CType) → HasKind t (zero_of t)
zero_kind CType.Char = as_number CType.Char _ refl tt
zero_kind CType.Int = as_number CType.Int _ refl tt
zero_kind CType.Unsigned = as_number CType.Unsigned _ refl tt
zero_kind (CType.Pointer t) = as_pointer (CType.Pointer t) _ refl tt
zero_kind CType.Void = as_other CType.Void _ refl refl
zero_kind (CType.Struct k) = as_other (CType.Struct k) _ refl refl
zero_kind (CType.Array t n) = as_other (CType.Array t n) _ refl refl

slot_fits : (plan : List Placed) (first j : ℕ) (l : CLocal) → SlotFits l (slot_of plan first j l)
slot_fits plan first j l = of l.is_block refl
  where
    of : (b : Bool) → l.is_block ≡ b → SlotFits l (if b then Lies (first + position_of j plan) else Kept (zero_of l.ty))
    of true e = e
    of false e = (e, zero_kind l.ty)

slots_fit : (plan : List Placed) (first j : ℕ) (ls : List CLocal) (k : ℕ) (l : CLocal) → slice_get ls k ≡ Some l → SlotFits l (slice_index_or (slots_from plan first j ls) k (Kept (Num 0)))
slots_fit plan first j [] k l found = absurd (not_there found)
slots_fit plan first j (x ∷ xs) zero l found = subst (λ z. SlotFits z (slot_of plan first j x)) (same_thing found) (slot_fits plan first j x)
slots_fit plan first j (x ∷ xs) (suc k) l found = slots_fit plan first (suc j) xs k l found

-- ---- Parameters

pass_kind : (all : List CLocal) (j n : ℕ) (ls : List CLocal) (vs : List Value) (c : State) → ((i : ℕ) (l : CLocal) → slice_get ls i ≡ Some l → slice_get all (j + i) ≡ Some l) → All (λ l. IsScalar l.ty) (take n ls) → HaveKinds (map (λ l. l.ty) (take n ls)) vs → Sound all c → KeepsKinds all (Anything {A = Unit {0}}) (pass j n ls vs c)
pass_kind all j zero ls vs c within scalar of_kind s = keeps_value _ _ tt s
pass_kind all j (suc n) [] vs c within scalar of_kind s = keeps_value _ _ tt s
pass_kind all j (suc n) (l ∷ ls) [] c within scalar of_kind s = keeps_value _ _ tt s
pass_kind all j (suc n) (l ∷ ls) (v ∷ vs) c within scalar of_kind s =
    let found : slice_get all j ≡ Some l = subst (λ i. slice_get all i ≡ Some l) (omega arith) (within 0 l refl) in
    keeps_then (write_kind all l.ty (local_place j c) v c (All-head (λ l. IsScalar l.ty) l (take n ls) scalar) (local_fits all j l c found s) of_kind.0 s) (λ x d h r.
    pass_kind all (suc j) n ls vs d (λ i m at. subst (λ k. slice_get all k ≡ Some m) (omega arith) (within (suc i) m at)) (All-tail (λ l. IsScalar l.ty) l (take n ls) scalar) of_kind.1 r)

given_kind : (t : CType) (x : Signal) → SignalFits t x → HasKind t (given (zero_of t) x)
given_kind t Falls h = zero_kind t
given_kind t Broke h = zero_kind t
given_kind t Continued h = zero_kind t
given_kind t (Gave v) h = h

-- ---- Calls

function_kind : (g : ℕ) (p : CProgram) (f : CFunction) → IsFunction p f → (body : State → Runs Signal) → ((c : State) → Sound f.locals c → KeepsKinds f.locals (SignalFits f.result) (body c)) → (vs : List Value) → HaveKinds (prototype_of f).params vs → (ls : List CLocal) (c : State) → Sound ls c → KeepsKinds ls (HasKind f.result) (call_function g f body vs c)
function_kind g p f is body k vs of_kind ls c s =
    keeps_then (keeps_doing _ (count_call f c) (record { slots = s.slots }) (enter_gives g f.line (block_items f))) (λ entered c1 h1 s1.
    keeps_then (pass_kind f.locals 0 f.params f.locals vs (with_locals g f c c1) (λ i l found. subst (λ j. slice_get f.locals j ≡ Some l) (omega arith) found) is.params of_kind
    (record { slots = λ j l found. slots_fit (layout g (block_items f)) (length c.world.objects) 0 f.locals j l found })) (λ passed c2 h2 s2.
    keeps_then (k c2 s2) (λ x c3 h3 s3. keeps_value _ _ (given_kind f.result x h3) (record { slots = s.slots }))))

results : (p : CProgram) (fs : List CFunction) → All (IsFunction p) fs → All (λ q. IsResult q.result) (map prototype_of fs)
results p [] all = All-nil (λ q. IsResult q.result)
results p (f ∷ fs) all =
    All-cons (λ q. IsResult q.result) (prototype_of f) (map prototype_of fs) (All-head (IsFunction p) f fs all).result (results p fs (All-tail (IsFunction p) f fs all))

module _ (p : CProgram) (objects : AggregatesHaveObjects) (typed : Typed p) where
  setting : (f : CFunction) → IsFunction p f → Setting p f
  setting f is = record { objects = objects; results = results p p.functions typed.functions; locals = is.locals }

  found_setting : (i : ℕ) (f : CFunction) → slice_get p.functions i ≡ Some f → Setting p f
  found_setting i f found = setting f (all_get (IsFunction p) p.functions i f typed.functions found)

  spared : (i : ℕ) (f : CFunction) → slice_get p.functions i ≡ Some f → Never f.locals (λ k. stmt_refers k f.body)
  spared i f found = record { none = λ k l at kept. (kept_parts p f (found_setting i f found) k l at kept).2 }

  past_kind : (o : Option CFunction) (t : CType) (ls : List CLocal) (c : State) → KeepsKinds ls (HasKind t) (call_past o c)
  past_kind None t ls c = keeps_end _ _ tt
  past_kind (Some f) t ls c = of (nat_le MOST_CALLS c.world.depth)
    where
      of : (b : Bool) → KeepsKinds ls (HasKind t) (if b then Ends (Reported Depth f.line) (count_call f c) else Ends Cut c)
      of true = keeps_end _ _ tt
      of false = keeps_end _ _ tt

  calls_kind : (g m n : ℕ) → CallsKeepKinds p (calls g p m n)
  calls_kind g m zero i f found vs of_kind ls c s = past_kind (slice_get p.functions i) f.result ls c
  calls_kind g m (suc n) i f found vs of_kind ls c s =
      let is = all_get (IsFunction p) p.functions i f typed.functions found in
      found_call (slice_get p.functions i) found
      (function_kind g p f is (execute g p (calls g p m n) m f.locals f.body (first_site p.structs p.functions i))
      (λ d r. execute_kind g p f (setting f is) (calls g p m n) (calls_kind g m n) m false f.body is.body (spared i f found) (first_site p.structs p.functions i) d r) vs of_kind ls c s)
    where
      found_call : (o : Option CFunction) → o ≡ Some f →
          KeepsKinds ls (HasKind f.result) (call_function g f (execute g p (calls g p m n) m f.locals f.body (first_site p.structs p.functions i)) vs c) →
          KeepsKinds ls (HasKind f.result) (call_if_any g o (λ z. execute g p (calls g p m n) m z.locals z.body (first_site p.structs p.functions i)) vs c)
      found_call None e k = absurd (not_there e)
      found_call (Some z) e k = subst (λ z. KeepsKinds ls (HasKind f.result) (call_function g z (execute g p (calls g p m n) m z.locals z.body (first_site p.structs p.functions i)) vs c)) (sym (same_thing e)) k

  -- ---- Whole runs

  source_kind : (g : ℕ) (input : List ℕ) (m : ℕ) → KeepsKinds [] (Anything {A = Unit {0}}) (source g p input m)
  source_kind g input m =
      keeps_then (calls_kind g m m p.main typed.main.function typed.main.found [] (no_arguments typed.main.function typed.main.params) [] (first_state g p input) (record { slots = λ k l found. absurd (not_there found) })) (λ v d h r.
      keeps_doing _ d r (λ w. with_number_gives v (λ n. Ends (Exited n)) w (h.number (number_by typed.main.result refl)) (λ n. gives_end (Exited n) w tt)))
    where
      no_arguments : (f : CFunction) → f.params ≡ 0 → HaveKinds (prototype_of f).params []
      no_arguments f e = subst (λ n. HaveKinds (map (λ l. l.ty) (take n f.locals)) []) (sym e) tt

ending_kind : (r : Runs (Unit {0})) → KeepsKinds [] (Anything {A = Unit {0}}) r → NotKind (outcome_of r).ending
ending_kind (Goes a c) k = tt
ending_kind (Ends e c) k = k.is

pub typed_keeps_kinds : AggregatesHaveObjects → TypedKeepsKinds
typed_keeps_kinds objects g p input m typed e = subst NotKind e (ending_kind (source g p input m) (source_kind p objects typed g input m))

pub programs_keep_kinds : AggregatesHaveObjects → ProgramsKeepKinds
programs_keep_kinds objects g p m n typed = calls_kind p objects typed g m n

pub expressions_keep_kinds : AggregatesHaveObjects → ExpressionsKeepKinds
expressions_keep_kinds objects g p i f typed found call all e ie never site want may c s = run_kind g p f (found_setting p objects typed i f found) call all e ie never site want may c s

pub statements_keep_kinds : AggregatesHaveObjects → StatementsKeepKinds
statements_keep_kinds objects g p i f typed found call all m in_loop x is never site c s = execute_kind g p f (found_setting p objects typed i f found) call all m in_loop x is never site c s

pub declarations_keep_kinds : AggregatesHaveObjects → DeclarationsKeepKinds
declarations_keep_kinds objects g p i f typed found call all m d is never site c s = declare_kind g p f (found_setting p objects typed i f found) call all m d is never site c s

pub starts_keep_kinds : AggregatesHaveObjects → StartsKeepKinds
starts_keep_kinds objects g p i f typed found call all m x is never site c s = start_kind g p f (found_setting p objects typed i f found) call all m x is never site c s

pub bodies_refer_to_blocks : AggregatesHaveObjects → BodiesReferToBlocks
bodies_refer_to_blocks objects p i f typed found = spared p objects typed i f found
