-- An environment call that does not end the run goes on to the next instruction, and changes no register but x10.
use Rattle.std.proofs.Common.{◌≡◌, ℕ, List, [], ◌∷◌, Option, Some, None, refl, sym, subst, get_or-set_other}
use Rattle.std.proofs.lemmas.Option.{none-some}
use Rattle.bb_words.specs.declared.kinds.ReportKind.{ReportKind}
use Rattle.rv_machine.specs.declared.frames.Entry.{Entry}
use Rattle.rv_machine.specs.declared.frames.Entry.TheVariants.{NoFrame, TooDeep, NoRoom, Enters}
use Rattle.rv_machine.specs.Environment.{World, calls, gets_from, kind_of, reported_if, mallocs_by, new_in, Freeing, Nothing, NoBlock, Ends, freeing, frees_by, entering, enters_by, leaving, leaves_by}
use Rattle.rv_machine.specs.Frames.{Entering, Leaving}
use Rattle.rv_machine.specs.Instruction.{Asks}
use Rattle.rv_machine_laws.specs.Laws.{GoesOnWith10, CallsKeep}
use Rattle.rv_machine.specs.State.{Core, State, register_of, next, gives, with_memory}
use Rattle.rv_machine_laws.proofs.Cases.{by_call}
use Rattle.rv_machine.proofs.Steps.{step_acts}
use Rattle.size_table.specs.Blocks.{Block}

-- where the machine goes on, it does so from a core
IfGoesOn : Core → State → Type 0
IfGoesOn core s = s.ending ≡ None → GoesOnWith10 core s.core

given : (value : ℕ) (memory : List ℕ) (c : Core) → GoesOnWith10 c (gives 10 value (with_memory memory c))
given value memory c = record { pc = refl; others = λ r not. get_or-set_other c.registers 10 r value 0 not }

passed : (memory : List ℕ) (c : Core) → GoesOnWith10 c (next (with_memory memory c))
passed memory c = record { pc = refl; others = λ r not. refl }

gets_on : (left : List ℕ) (w : World) → IfGoesOn w.machine.core (gets_from left w).machine
unfolding IfGoesOn
gets_on [] w = λ e. given 4294967295 w.machine.core.memory w.machine.core
gets_on (byte ∷ bytes) w = λ e. given byte w.machine.core.memory w.machine.core

reports_on : (kind : Option ReportKind) (s : State) → IfGoesOn s.core (reported_if kind s)
unfolding IfGoesOn
reports_on None s = λ e. absurd (none-some _ (sym e))
reports_on (Some kind) s = λ e. absurd (none-some _ (sym e))

mallocs_on : (o : Option Block) (s : State) → IfGoesOn s.core (mallocs_by o s)
unfolding IfGoesOn
mallocs_on None s = λ e. given 0 s.core.memory s.core
mallocs_on (Some b) s = λ e. given b.base _ s.core

frees_on : (o : Freeing) (s : State) → IfGoesOn s.core (frees_by o s)
unfolding IfGoesOn
frees_on Nothing s = λ e. passed s.core.memory s.core
frees_on NoBlock s = λ e. absurd (none-some _ (sym e))
frees_on (Ends b) s = λ e. passed _ s.core

enters_on : (answer : Entry) (x : Entering) (s : State) → IfGoesOn s.core (enters_by answer x s)
unfolding IfGoesOn
enters_on NoFrame x s = λ e. absurd (none-some _ (sym e))
enters_on TooDeep x s = λ e. absurd (none-some _ (sym e))
enters_on NoRoom x s = λ e. absurd (none-some _ (sym e))
enters_on (Enters base) x s = λ e. given base x.memory s.core

leaves_on : (answer : Option ℕ) (x : Leaving) (s : State) → IfGoesOn s.core (leaves_by answer x s)
unfolding IfGoesOn
leaves_on None x s = λ e. absurd (none-some _ (sym e))
leaves_on (Some back) x s = λ e. given back x.memory s.core

calls_on : (w : World) → IfGoesOn w.machine.core (calls w).machine
unfolding IfGoesOn
calls_on w =
    let s = w.machine in
    by_call (λ v. IfGoesOn s.core v.machine) w (record {
      exit = λ e. absurd (none-some _ (sym e));
      getchar = gets_on w.left w;
      putchar = λ e. given _ s.core.memory s.core;
      malloc = mallocs_on (new_in s) s;
      free = frees_on (freeing s) s;
      report = reports_on (kind_of (register_of s.core 10)) s;
      enter = enters_on (entering s).answer (entering s) s;
      leave = leaves_on (leaving s).answer (leaving s) s;
      other = λ e. absurd (none-some _ (sym e));
    })

pub calls_keep : CallsKeep
unfolding IfGoesOn
calls_keep w running asks on =
    let is = step_acts w Asks running asks in
    subst (λ (v : World). v.machine.ending ≡ None → GoesOnWith10 w.machine.core v.machine.core) (sym is) (calls_on w) on
