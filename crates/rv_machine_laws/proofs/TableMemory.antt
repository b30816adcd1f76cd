-- The size table in memory where blocks are made and end. The laws of the layers below come as arguments.
use Rattle.std.proofs.Common.{◌≡◌, ℕ, ◌+◌, ◌/◌, ◌^◌, ◌<◌, ◌≤◌, List, [], ◌∷◌, ◌++◌, length, get_or, take, drop, sym, subst, ◌∙◌, inl, inr, arith, append-nil, append_assoc}
use Rattle.std.specs.Prelude.{All, map, reverse}
use Rattle.std.proofs.lemmas.List.{places, same_lists, get_or-take, get_or-drop}
use Rattle.std.proofs.lemmas.List.Elements.{All-head, All-tail}
use Rattle.rv_code.specs.Laws.{ReadsOnly}
use Rattle.size_table.specs.Made.{tabled, made, ended, all_made, all_ended}
use Rattle.rv_machine.proofs.BlockLists.{LieBetween}
use Rattle.rv_machine.proofs.BlockMemory.{IsMemory, filled_long, made_memory, all_ended_memory}
use Rattle.size_table.specs.Blocks.{Block, IsBlock, MissEachOther, MissesAll, AreDisjoint, without, count_in}
use Rattle.rv_machine.specs.Environment.{ended_event}
use Rattle.bb_watch.specs.Live.{live_of}
use Rattle.rv_machine_laws.proofs.EndedLists.{AreAmong, all_ended_blocks, last_ends}
use Rattle.rv_machine_laws.proofs.HeapLaws.{HeapLaws}
use Rattle.rv_machine_laws.proofs.SameBlocks.{removed, one_self}
use Rattle.size_table.specs.Table.{IsTableOf, Marks, BlockIsMarked, MarkingAdds, MarkingRemoves, filled, table_in}

-- the laws of the layers below
pub record LawsBelow : Type 0 where
  pub reads : ReadsOnly
  pub marked : BlockIsMarked
  pub adds : MarkingAdds
  pub removes : MarkingRemoves
  pub heap : HeapLaws

-- a part of a list
part_long : (m : List ℕ) (n k : ℕ) → n + k ≤ length m → length (take k (drop n m)) ≡ k
part_long m n k le = search (arith, places)

filled_part : (m : List ℕ) (n k a count byte : ℕ) → n + k ≤ length m → a + count ≤ k → take k (drop n (filled m (n + a) count byte)) ≡ filled (take k (drop n m)) a count byte
unfolding filled
filled_part m n k a count byte long le = same_lists _ _ (search (arith, places)) (λ i d h. grind (arith, places))

beside_part : (m : List ℕ) (n k at count byte : ℕ) → n + k ≤ at → at + count ≤ length m → take k (drop n (filled m at count byte)) ≡ take k (drop n m)
unfolding filled
beside_part m n k at count byte high le = same_lists _ _ (search (arith, places)) (λ i d h. grind (arith, places))

pub table_long : (m : List ℕ) → length m ≡ 33554432 → length (table_in m) ≡ 2097152
table_long m s = part_long m 2097152 2097152 (omega (arith, s))

pub table_at : (m : List ℕ) (slot : ℕ) → slot < 2097152 → get_or (table_in m) slot 0 ≡ get_or m (2097152 + slot) 0
table_at m slot l = get_or-take 2097152 (drop 2097152 m) slot 0 l ∙ get_or-drop 2097152 m slot 0

-- a memory with the same bytes there has the same table
pub table_stays : (blocks : List Block) (old new : List ℕ) → length new ≡ 33554432 → ((at : ℕ) → 2097152 ≤ at → at < 4194304 → get_or new at 0 ≡ get_or old at 0) → IsTableOf 4 blocks (table_in old) → IsTableOf 4 blocks (table_in new)
table_stays blocks old new s same t = record {
  size = table_long new s;
  bytes = λ slot l.
      table_at new slot l
      ∙ same (2097152 + slot) (omega arith) (omega (arith, l))
      ∙ sym (table_at old slot l)
      ∙ t.bytes slot l;
}

-- ---- Entries of blocks

-- a part of the table is filled
filled_table : (m : List ℕ) (a count byte : ℕ) → length m ≡ 33554432 → a + count ≤ 2097152 → table_in (filled m (2097152 + a) count byte) ≡ filled (table_in m) a count byte
filled_table m a count byte s le = filled_part m 2097152 2097152 a count byte (omega (arith, s)) le

-- what lies above the table is filled
table_beside : (m : List ℕ) (at count byte : ℕ) → 4194304 ≤ at → at + count ≤ length m → table_in (filled m at count byte) ≡ table_in m
table_beside m at count byte high le = beside_part m 2097152 2097152 at count byte (omega (arith, high)) le

pub tabled_marks : (below : LawsBelow) (byte : ℕ) (b : Block) (m : List ℕ) → IsBlock 4 b → length m ≡ 33554432 → Marks 4 b byte (table_in m) (table_in (tabled byte b m))
tabled_marks below byte b m h s =
    let fits : b.base / 16 + 2 ^ b.exponent / 16 ≤ 2097152 = omega (arith, h.within) in
    subst (Marks 4 b byte (table_in m)) (sym (filled_table m (b.base / 16) (2 ^ b.exponent / 16) byte s fits)) (below.marked b.base b.exponent byte (table_in m) (table_long m s) h)

made_marks : (below : LawsBelow) (b : Block) (m : List ℕ) → IsBlock 4 b → 4194304 ≤ b.base → length m ≡ 33554432 → Marks 4 b b.exponent (table_in m) (table_in (made b m))
unfolding made
made_marks below b m h high s =
    let fits : b.base + 2 ^ b.exponent ≤ length m = omega (arith, h.within, s) in
    let zeroed = filled m b.base (2 ^ b.exponent) 0 in
    let same : table_in zeroed ≡ table_in m = table_beside m b.base (2 ^ b.exponent) 0 high fits in
    subst (λ (t : List ℕ). Marks 4 b b.exponent t (table_in (tabled b.exponent b zeroed))) same (tabled_marks below b.exponent b zeroed h (filled_long m b.base (2 ^ b.exponent) 0 fits ∙ s))

ended_marks : (below : LawsBelow) (b : Block) (m : List ℕ) → IsBlock 4 b → length m ≡ 33554432 → Marks 4 b 0 (table_in m) (table_in (ended b m))
unfolding ended
ended_marks below b m h s = tabled_marks below 0 b m h s

-- ---- Blocks that are made and end

other_way : (b c : Block) → MissEachOther b c → MissEachOther c b
other_way b c (inl m) = inr m
other_way b c (inr m) = inl m

-- what comes before in a list of blocks that do not meet, and the last of them
first_misses : (b : Block) (xs ys : List Block) → MissesAll b (xs ++ ys) → MissesAll b xs
first_misses b [] ys m = tt
first_misses b (x ∷ xs) ys m = (m.0, first_misses b xs ys m.1)

meets_not : (b c : Block) (xs ys : List Block) → MissesAll b (xs ++ c ∷ ys) → MissEachOther c b
meets_not b c [] ys m = other_way b c m.0
meets_not b c (x ∷ xs) ys m = meets_not b c xs ys m.1

pub last_misses : (xs : List Block) (b : Block) (ys : List Block) → AreDisjoint (xs ++ b ∷ ys) → MissesAll b xs
last_misses [] b ys d = tt
last_misses (x ∷ xs) b ys d = (meets_not x b xs ys d.0, last_misses xs b ys d.1)

pub first_disjoint : (xs ys : List Block) → AreDisjoint (xs ++ ys) → AreDisjoint xs
first_disjoint [] ys d = tt
first_disjoint (x ∷ xs) ys d = (first_misses x xs ys d.0, first_disjoint xs ys d.1)

pub added : (below : LawsBelow) (live : List Block) (b : Block) (old new : List ℕ) → Marks 4 b b.exponent old new → AreDisjoint (live ++ b ∷ []) → IsTableOf 4 live old → IsTableOf 4 (live ++ b ∷ []) new
added below live b old new marks d t =
    let misses = subst (MissesAll b) (sym (append-nil live)) (last_misses live b [] d) in
    below.adds 4 b old new marks live [] misses (subst (λ (bs : List Block). IsTableOf 4 bs old) (sym (append-nil live)) t)

pub made_table : (below : LawsBelow) (live : List Block) (b : Block) (m : List ℕ) → IsBlock 4 b → 4194304 ≤ b.base → IsMemory m → AreDisjoint (live ++ b ∷ []) → IsTableOf 4 live (table_in m) → IsTableOf 4 (live ++ b ∷ []) (table_in (made b m))
made_table below live b m h high i d t = added below live b (table_in m) (table_in (made b m)) (made_marks below b m h high i.size) d t

-- a block ends, wherever it stands among those that live
pub ended_table : (below : LawsBelow) (live : List Block) (b : Block) (m : List ℕ) → IsBlock 4 b → IsMemory m → AreDisjoint live → 1 ≤ count_in b live → IsTableOf 4 live (table_in m) → IsTableOf 4 (without b.base live) (table_in (ended b m))
ended_table below live b m h i d l t =
    let r = removed b live d l in
    subst (λ (bs : List Block). IsTableOf 4 bs (table_in (ended b m))) (sym r.leaves)
    (below.removes 4 b (table_in m) (table_in (ended b m)) (ended_marks below b m h i.size) r.before r.after (subst AreDisjoint r.is d) (subst (λ (bs : List Block). IsTableOf 4 bs (table_in m)) r.is t))

-- all of the blocks lie above the size table
pub all_made_table : (below : LawsBelow) (bs live : List Block) (low high : ℕ) (m : List ℕ) → 4194304 ≤ low → LieBetween low high bs → All (IsBlock 4) bs → IsMemory m → AreDisjoint (live ++ bs) → IsTableOf 4 live (table_in m) → IsTableOf 4 (live ++ bs) (table_in (all_made bs m))
all_made_table below [] live low high m above p h i d t = subst (λ (bs : List Block). IsTableOf 4 bs (table_in m)) (sym (append-nil live)) t
all_made_table below (b ∷ bs) live low high m above p h i d t =
    let block = All-head (IsBlock 4) b bs h in
    let push = append_assoc live (b ∷ []) bs in
    let apart = subst AreDisjoint (sym push) d in
    let table = made_table below live b m block (omega (arith, above, p.0.0)) i (first_disjoint (live ++ b ∷ []) bs apart) t in
    subst (λ (l : List Block). IsTableOf 4 l (table_in (all_made bs (made b m)))) push
    (all_made_table below bs (live ++ b ∷ []) low high (made b m) above p.1 (All-tail (IsBlock 4) b bs h) (made_memory b m block i) apart table)

pub all_ended_table : (below : LawsBelow) (bs live : List Block) (m : List ℕ) → All (IsBlock 4) bs → IsMemory m → AreDisjoint live → AreAmong bs live → IsTableOf 4 live (table_in m) → IsTableOf 4 (live_of live (map ended_event (reverse bs))) (table_in (all_ended bs m))
all_ended_table below [] live m h i d a t = t
all_ended_table below (b ∷ bs) live m h i d a t =
    let fit = All-tail (IsBlock 4) b bs h in
    let fewer : AreAmong bs live = λ c. let e = a c in omega (arith, e) in
    let others = all_ended_table below bs live m fit i d fewer t in
    let left = all_ended_blocks bs live d fewer in
    let there : 1 ≤ count_in b (live_of live (map ended_event (reverse bs))) = (let e = a b in let n = left.count b in let s = one_self b in omega (arith, e, n, s)) in
    subst (λ (l : List Block). IsTableOf 4 l (table_in (all_ended (b ∷ bs) m))) (sym (last_ends b bs live))
    (ended_table below (live_of live (map ended_event (reverse bs))) b (all_ended bs m) (All-head (IsBlock 4) b bs h) (all_ended_memory bs m fit i) left.disjoint there others)
