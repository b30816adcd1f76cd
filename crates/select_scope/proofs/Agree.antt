-- What keeps a machine in agreement with flat code.
use Rattle.std.proofs.Common.{◌≡◌, ◌==◌, ℕ, ◌+◌, ◌*◌, ◌≤◌, true, false, List, [], ◌∷◌, ◌++◌, map, Some, refl, sym, ap, ◌∙◌, subst, arith}
use Rattle.std.specs.Prelude.{slice_index}
use Rattle.std.proofs.lemmas.List.{append-nil}
use Rattle.bb_watch.specs.declared.event.Event.{Event}
use Rattle.bb_watch.specs.Told.{Happens, events_of}
use Rattle.bb_watch.specs.Laws.{EventsAppend, EventsHappen, EachAppends, OpenAppends, open_on}
use Rattle.bb_watch.specs.Safety.{Each, IsControlSafe, open_after}
use Rattle.size_table.specs.Blocks.{Block}
use Rattle.size_table.specs.declared.memory_map.TheConstants.{GLOBALS_START, HEAP_START}
use Rattle.flat_code_laws.specs.Laws.{TellsAppend, LiveAppends}
use Rattle.flat_code.specs.Safety.{live_of}
use Rattle.flat_code.specs.Told.{tells}
use Rattle.flat_code.specs.World.{FWorld, spend}
use Rattle.rv_machine.specs.State.{Core, register_of}
use Rattle.rv_machine.specs.Environment.{World}
use Rattle.rv_machine_laws.specs.Laws.{StepsAdd, CoreStays, OthersStay}
use Rattle.rv_asm.specs.Runs.{gone}
use Rattle.rv_selected.specs.Follows.{StepsLead}
use Rattle.flat_landing.specs.Laws.{SharedAppends, KeptMore}
use Rattle.flat_landing.specs.Shared.{shared}
use Rattle.select_scope.specs.Frame.{IsFrameAt, IsOfFrame, AreOfFrame, StraightRuns}
use Rattle.select_scope.specs.Loaded.{Loaded, Frame, AreHigh, Agrees, IsKept}

-- the laws of the layers below
pub record Laws : Type 0 where
  pub straight : StraightRuns
  pub steps_add : StepsAdd
  pub core_stays : CoreStays
  pub others : OthersStay
  pub leads : StepsLead
  pub kept_more : KeptMore
  pub events_append : EventsAppend
  pub events_happen : EventsHappen
  pub each_appends : EachAppends IsControlSafe
  pub open_appends : OpenAppends
  pub shared_appends : SharedAppends
  pub tells_append : TellsAppend
  pub live_appends : LiveAppends

-- ---- Events that flat code does not have

-- events that flat code does not tell, and that keep control
pub record AreUnnoticed (events : List Event) : Type 0 where
  pub none : shared (map Happens events) ≡ []
  pub safe : (live ever : List Block) → Each IsControlSafe live ever events
  pub stay : (places : List ℕ) → open_after places events ≡ Some places

pub unnoticed_none : AreUnnoticed []
unnoticed_none = record { none = refl; safe = λ live ever. tt; stay = λ places. refl }

unnoticed_more : (sp words : ℕ) → IsFrameAt sp words → (e : Event) (es : List Event) → IsOfFrame sp words e → AreUnnoticed es → AreUnnoticed (e ∷ es)
unnoticed_more sp words frame e es h rest = subst (λ x. AreUnnoticed (x ∷ es)) (sym h.is) (record {
  none = rest.none;
  safe = λ live ever. ((λ two. (omega (arith, frame.low, h.low), omega (arith, frame.high, h.high)), λ other. absurd (let q : true ≡ false = ap (λ n. n == 2) other in cc)), rest.safe live ever);
  stay = λ places. rest.stay places;
})

-- accesses to the control frame
pub frame_unnoticed : (sp words : ℕ) → IsFrameAt sp words → (events : List Event) → AreOfFrame sp words events → AreUnnoticed events
frame_unnoticed sp words frame [] h = unnoticed_none
frame_unnoticed sp words frame (e ∷ es) h = unnoticed_more sp words frame e es h.0 (frame_unnoticed sp words frame es h.1)

-- ---- The same world, later

pub record IsLater (old new : FWorld) : Type 0 where
  pub memory : new.memory ≡ old.memory
  pub stack : new.stack ≡ old.stack
  pub depth : new.depth ≡ old.depth
  pub input : new.input ≡ old.input
  pub live : new.live ≡ old.live
  pub told : new.told ≡ old.told
  pub time : old.time ≤ new.time

pub spent : (n : ℕ) (w : FWorld) → IsLater w (spend n w)
spent n w = record { memory = refl; stack = refl; depth = refl; input = refl; live = refl; told = refl; time = omega arith }

pub itself : (w : FWorld) → IsLater w w
itself w = record { memory = refl; stack = refl; depth = refl; input = refl; live = refl; told = refl; time = omega arith }

pub kept_later : (s : Loaded) (old new : FWorld) → IsLater old new → IsKept s old.told → IsKept s new.told
kept_later s old new l h = subst (IsKept s) (sym l.told) h

pub agrees_later : (s : Loaded) (f : Frame) (old new : FWorld) (v : World) → IsLater old new → Agrees s f old v → Agrees s f new v
agrees_later s f old new v l a = record {
  memory = λ at low high. a.memory at low high ∙ sym (ap (λ m. m at) l.memory);
  above = a.above;
  stack = a.stack ∙ sym l.stack;
  table = a.table;
  number = a.number ∙ sym l.stack;
  layouts = a.layouts;
  entered = a.entered;
  depth = l.depth ∙ a.depth;
  input = a.input ∙ sym l.input;
  said = a.said ∙ sym (ap tells l.told);
  accesses = a.accesses;
  returns = a.returns;
  settled = record {
    live = l.live ∙ a.settled.live ∙ sym (ap (λ t. live_of s.globals (tells t)) l.told);
    high = subst (λ t. AreHigh (tells t)) (sym l.told) a.settled.high;
    stack = subst (λ n. n ≤ HEAP_START) (sym l.stack) a.settled.stack;
  };
}

-- ---- A core that goes on

module _ (laws : Laws) (s : Loaded) where
  -- what was told, with these events behind it
  more_events : (v : World) (core : Core) (events : List Event) → events_of (gone events core v).told ≡ events_of v.told ++ events
  more_events v core events = laws.events_append v.told (map Happens events) ∙ ap (λ l. events_of v.told ++ l) (laws.events_happen events)

  -- Another core, which has the same bytes above the control frame, the same stack number and the same place of the table,
  -- after events that flat code does not have.
  pub agrees_gone : (f : Frame) (w : FWorld) (v : World) (core : Core) (events : List Event) → f.sp + 4 * (f.values + 1) ≤ GLOBALS_START → AreUnnoticed events
      → ((at : ℕ) → f.sp + 4 * (f.values + 1) ≤ at → slice_index core.memory at ≡ slice_index v.machine.core.memory at)
      → register_of core 8 ≡ register_of v.machine.core 8 → register_of core 26 ≡ register_of v.machine.core 26
      → Agrees s f w v → Agrees s f w (gone events core v)
  agrees_gone f w v core events above quiet beside eight table a =
      let es = more_events v core events in
      record {
        memory = λ at low high. beside at (omega (arith, above, low)) ∙ a.memory at low high;
        above = λ at low high. beside at low ∙ a.above at low high;
        stack = eight ∙ a.stack;
        table = table ∙ a.table;
        number = a.number;
        layouts = a.layouts;
        entered = a.entered;
        depth = a.depth;
        input = a.input;
        said = laws.shared_appends v.told (map Happens events) ∙ ap (λ l. shared v.told ++ l) quiet.none ∙ append-nil (shared v.told) ∙ a.said;
        accesses = subst (Each IsControlSafe s.globals s.globals) (sym es) ((laws.each_appends s.globals s.globals (events_of v.told) events).1 (a.accesses, quiet.safe _ _));
        returns = ap (open_after []) es ∙ laws.open_appends [] (events_of v.told) events ∙ ap (λ o. open_on o events) a.returns ∙ quiet.stay f.places;
        settled = a.settled;
      }
