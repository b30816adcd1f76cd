-- Blocks that end, wherever they stand among the live ones.
use Rattle.std.proofs.Common.{◌≡◌, ◌+◌, ◌≤◌, List, [], ◌∷◌, sym, ap, subst, ◌∙◌, arith}
use Rattle.std.specs.Prelude.{map, reverse}
use Rattle.std.proofs.lemmas.List.{map-append, reverse-append}
use Rattle.rv_machine.specs.Environment.{ended_event}
use Rattle.bb_watch.specs.Live.{live_of}
use Rattle.rv_machine_laws.proofs.LiveLists.{live_append}
use Rattle.rv_machine_laws.proofs.SameBlocks.{one_self, count_without, without_disjoint}
use Rattle.size_table.specs.Blocks.{Block, AreDisjoint, without, count_in}

-- each of the blocks stands among the others, as often as among them
abbrev pub AreAmong : List Block → List Block → Type 0
AreAmong bs live = (b : Block) → count_in b bs ≤ count_in b live

-- what is left when blocks have ended, the last one first
pub ended_blocks : List Block → List Block → List Block
ended_blocks bs live = live_of live (map ended_event (reverse bs))

pub record AreEnded (bs live : List Block) : Type 0 where
  pub count : (b : Block) → count_in b (live_of live (map ended_event (reverse bs))) + count_in b bs ≡ count_in b live
  pub disjoint : AreDisjoint (live_of live (map ended_event (reverse bs)))

pub last_ends : (b : Block) (bs live : List Block) → live_of live (map ended_event (reverse (b ∷ bs))) ≡ without b.base (live_of live (map ended_event (reverse bs)))
last_ends b bs live =
    let split = ap (map ended_event) (reverse-append (b ∷ []) bs) ∙ map-append ended_event (reverse bs) (b ∷ []) in
    ap (live_of live) split ∙ live_append live (map ended_event (reverse bs)) (ended_event b ∷ [])

pub all_ended_blocks : (bs live : List Block) → AreDisjoint live → AreAmong bs live → AreEnded bs live
all_ended_blocks [] live d a = record { count = λ b. omega arith; disjoint = d }
all_ended_blocks (b ∷ bs) live d a =
    let rest = all_ended_blocks bs live d (λ c. let m = a c in omega (arith, m)) in
    let left = live_of live (map ended_event (reverse bs)) in
    let there : 1 ≤ count_in b left = (let m = a b in let n = rest.count b in let s = one_self b in omega (arith, m, n, s)) in
    let same = last_ends b bs live in
    record {
      count = λ c. let e = ap (count_in c) same in let n = count_without b left rest.disjoint there c in let m = rest.count c in omega (arith, e, n, m);
      disjoint = subst AreDisjoint (sym same) (without_disjoint b left rest.disjoint there);
    }
