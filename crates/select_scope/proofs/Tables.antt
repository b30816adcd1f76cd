-- The size table of a machine that agrees with flat code: that of the blocks that live in flat code.
use Rattle.std.proofs.Common.{◌≡◌, ◌==◌, ℕ, ◌+◌, ◌<◌, ◌⊎◌, inl, inr, ◌||◌, Bool, true, false, if◌then◌else◌, List, [], ◌∷◌, ◌++◌, refl, sym, ap, ◌∙◌, subst, arith}
use Rattle.std.specs.Prelude.{drop, slice_index}
use Rattle.std.proofs.lemmas.Bool.{ne_eqb, cases_eq}
use Rattle.std.proofs.lemmas.List.{get_or-take, get_or-drop}
use Rattle.bb_watch.specs.declared.event.Event.TheVariants as event
use Rattle.bb_watch.specs.Live as machine_live
use Rattle.bb_watch.specs.Told as machine
use Rattle.bb_watch.specs.Told.{events_of}
use Rattle.bb_watch.specs.Safety.{Each, IsControlSafe}
use Rattle.size_table.specs.Blocks.{Block, block_at, without}
use Rattle.size_table.specs.Table.{byte_of, table_in}
use Rattle.size_table.specs.declared.memory_map.TheConstants.{TABLE_START}
use Rattle.flat_code.specs.Safety.{live_of}
use Rattle.flat_code.specs.Told as flat
use Rattle.flat_code.specs.World.{FWorld}
use Rattle.flat_landing.specs.Shared.{shared}
use Rattle.rv_machine.specs.Changes.{IsOffTable, AreOffTable}
use Rattle.select_scope.specs.Loaded.{Loaded, IsLoaded, after, Frame, AreHigh, Agrees}

-- ---- The same live blocks

same_live : (told : List machine.Tell) (live : List Block) → machine_live.live_of live (events_of told) ≡ live_of live (shared told)
same_live [] live = refl
same_live (machine.Output byte ∷ told) live = same_live told live
same_live (machine.Happens (event.Move pc from to) ∷ told) live = same_live told live
same_live (machine.Happens (event.Call pc target) ∷ told) live = same_live told live
same_live (machine.Happens (event.Return pc target) ∷ told) live = same_live told live
same_live (machine.Happens (event.Made at exponent) ∷ told) live = same_live told (live ++ block_at at exponent ∷ [])
same_live (machine.Happens (event.Ended at exponent) ∷ told) live = same_live told (without at live)
same_live (machine.Happens (event.Line line) ∷ told) live = same_live told live
same_live (machine.Happens (event.Access pc at size write base) ∷ told) live = same_live told live ∙ sym (by_test ((base == 2) || (base == 31)))
  where
    by_test : (t : Bool) → live_of live ((if t then [] else flat.Tell.Access at size write ∷ []) ++ shared told) ≡ live_of live (shared told)
    by_test true = refl
    by_test false = refl

-- ---- Nothing was written to the table

high_rest : (xs ys : List flat.Tell) → AreHigh (xs ++ ys) → AreHigh ys
high_rest [] ys h = h
high_rest (x ∷ xs) ys h = high_rest xs ys h.1

off_table : (told : List machine.Tell) (live ever : List Block) → Each IsControlSafe live ever (events_of told) → AreHigh (shared told) → AreOffTable (events_of told)
off_table [] live ever safe high = tt
off_table (machine.Output byte ∷ told) live ever safe high = off_table told live ever safe high.1
off_table (machine.Happens (event.Move pc from to) ∷ told) live ever safe high = (tt, off_table told live ever safe.1 high.1)
off_table (machine.Happens (event.Call pc target) ∷ told) live ever safe high = (tt, off_table told live ever safe.1 high)
off_table (machine.Happens (event.Return pc target) ∷ told) live ever safe high = (tt, off_table told live ever safe.1 high)
off_table (machine.Happens (event.Made at exponent) ∷ told) live ever safe high = (tt, off_table told (live ++ block_at at exponent ∷ []) (ever ++ block_at at exponent ∷ []) safe.1 high.1)
off_table (machine.Happens (event.Ended at exponent) ∷ told) live ever safe high = (tt, off_table told (without at live) ever safe.1 high.1)
off_table (machine.Happens (event.Line line) ∷ told) live ever safe high = (tt, off_table told live ever safe.1 high.1)
off_table (machine.Happens (event.Access pc at size write base) ∷ told) live ever safe high =
    (by_write write safe.0 high, off_table told live ever safe.1 (high_rest (if (base == 2) || (base == 31) then [] else flat.Tell.Access at size write ∷ []) (shared told) high))
  where
    by_base : IsControlSafe live ever (event.Access pc at size true base) → AreHigh ((if (base == 2) || (base == 31) then [] else flat.Tell.Access at size true ∷ []) ++ shared told)
        → (base ≡ 2) ⊎ (base ≡ 2 → ⊥) → (base ≡ 31) ⊎ (base ≡ 31 → ⊥) → IsOffTable (event.Access pc at size true base)
    by_base control up (inl two) other = inr (let low = (control.0 two).0 in omega (arith, low))
    by_base control up (inr not_two) (inl is) = absurd (let e : true ≡ false = (control.1 is).0 in let q : ⊥ = cc in q)
    by_base control up (inr not_two) (inr neither) =
        inr (let made : AreHigh (flat.Tell.Access at size true ∷ shared told) =
        subst (λ t. AreHigh ((if t then [] else flat.Tell.Access at size true ∷ []) ++ shared told)) (ap (λ t. t || (base == 31)) (ne_eqb base 2 not_two) ∙ ne_eqb base 31 neither) up in
        let low = made.0 in omega (arith, low))

    by_write : (write : Bool) → IsControlSafe live ever (event.Access pc at size write base) → AreHigh ((if (base == 2) || (base == 31) then [] else flat.Tell.Access at size write ∷ []) ++ shared told)
        → IsOffTable (event.Access pc at size write base)
    by_write true control up = by_base control up (cases_eq base 2) (cases_eq base 31)
    by_write false control up = tt

-- ---- The table's bytes

pub table_byte : (s : Loaded) (scene : IsLoaded s) (f : Frame) (w : FWorld) (k slot : ℕ) → Agrees s f w (after s k) → slot < 2097152
    → slice_index (after s k).machine.core.memory (TABLE_START + slot) ≡ byte_of 4 w.live slot
table_byte s scene f w k slot a lt =
    let v = after s k in
    let high : AreHigh (shared v.told) = subst AreHigh (sym a.said) a.settled.high in
    let table = scene.tables k (off_table v.told s.globals s.globals a.accesses high) in
    let same : machine_live.live_of s.globals (events_of v.told) ≡ w.live = same_live v.told s.globals ∙ ap (live_of s.globals) a.said ∙ sym a.settled.live in
    let here : slice_index (table_in v.machine.core.memory) slot ≡ slice_index v.machine.core.memory (TABLE_START + slot) =
    get_or-take 2097152 (drop TABLE_START v.machine.core.memory) slot 0 lt ∙ get_or-drop TABLE_START v.machine.core.memory slot 0 in
    sym here ∙ table.bytes slot lt ∙ ap (λ blocks. byte_of 4 blocks slot) same
