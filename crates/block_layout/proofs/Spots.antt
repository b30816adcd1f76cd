-- From spots to the layouts that the calls answer.
use Rattle.std.specs.Prelude.{drop, map}
use Rattle.std.proofs.Common.{◌≡◌, ℕ, zero, suc, ◌+◌, ◌-◌, ◌^◌, ◌<◌, ◌≤◌, List, [], ◌∷◌, ◌++◌, length, get_or, refl, sym, ap, ◌∙◌, subst, arith, append-nil}
use Rattle.std.proofs.lemmas.List.{length-map, length-append}
use Rattle.size_table.specs.declared.memory_map.TheConstants.{SLOT_EXPONENT, GLOBALS_START, MOST_BYTES}
use Rattle.size_table.specs.Pads.{exponent_of}
use Rattle.typed_tree.specs.declared.typed.Global.{Global}
use Rattle.typed_tree.specs.TypedViews.{global_of}
use Rattle.block_layout.specs.Layout.{Item, Placed, AreSmall, pad, declining, placed_from, layout, total_of}
use Rattle.block_layout.specs.Objects.{numbered, stored_global, stored_text}
use Rattle.block_layout.specs.Answers.{object_at, global_at, block_at}
use Rattle.block_layout.specs.Views.{item_of, placed_of, global_of_spot, block_of_spot}
use Rattle.block_layout.specs.declared.globals.Placed as globals
use Rattle.block_layout.specs.declared.object.Object.{Object}
use Rattle.block_layout.specs.declared.object.Spot.{Spot}
use Rattle.block_layout.proofs.Loops.{next_in, end_in, small_rest}
use Rattle.block_layout.proofs.Sums.{few}

-- ---- Blocks of a frame

blocks_at : (spots : List Spot) → map block_of_spot spots ≡ map block_at (map placed_of spots)
blocks_at [] = refl
blocks_at (s ∷ ss) = ap (λ l. block_of_spot s ∷ l) (blocks_at ss)

pub frame_laid : (spots : List Spot) (items : List Item) → map placed_of spots ≡ placed_from SLOT_EXPONENT 0 (declining SLOT_EXPONENT (25 - SLOT_EXPONENT) items) → map block_of_spot spots ≡ map block_at (layout SLOT_EXPONENT items)
unfolding layout
frame_laid spots items h = blocks_at spots ∙ ap (map block_at) h

pub layout_is : (items : List Item) → placed_from SLOT_EXPONENT 0 (declining SLOT_EXPONENT (25 - SLOT_EXPONENT) items) ≡ layout SLOT_EXPONENT items
unfolding layout
layout_is items = refl

-- ---- Global objects

-- at the address that is its offset already
abbrev there : (named : ℕ) → Placed → globals.Placed
there named p = record { object = object_at named p.number; base = p.offset; exponent = p.exponent; length = p.length }

globals_there : (named : ℕ) (spots : List Spot) → map (global_of_spot named) spots ≡ map (there named) (map placed_of spots)
globals_there named [] = refl
globals_there named (s ∷ ss) = ap (λ l. global_of_spot named s ∷ l) (globals_there named ss)

shifted : (named offset : ℕ) (items : List Item) → map (there named) (placed_from SLOT_EXPONENT (GLOBALS_START + offset) items) ≡ map (global_at named) (placed_from SLOT_EXPONENT offset items)
shifted named offset [] = refl
shifted named offset (i ∷ is) =
    ap (λ l. global_at named (record { number = i.number; offset = offset; exponent = exponent_of SLOT_EXPONENT i.length; length = i.length }) ∷ l)
    (ap (λ n. map (there named) (placed_from SLOT_EXPONENT n is)) (let q : GLOBALS_START + offset + pad SLOT_EXPONENT i ≡ GLOBALS_START + (offset + pad SLOT_EXPONENT i) = omega arith in q)
    ∙ shifted named (offset + pad SLOT_EXPONENT i) is)

pub globals_laid : (named : ℕ) (spots : List Spot) (items : List Item) → map placed_of spots ≡ placed_from SLOT_EXPONENT GLOBALS_START (declining SLOT_EXPONENT (25 - SLOT_EXPONENT) items) → map (global_of_spot named) spots ≡ map (global_at named) (layout SLOT_EXPONENT items)
unfolding layout
globals_laid named spots items h =
    globals_there named spots
    ∙ ap (map (there named)) h
    ∙ shifted named 0 (declining SLOT_EXPONENT (25 - SLOT_EXPONENT) items)

-- ---- The lengths of the global objects

pub lengths_are : (globals : List Global) (texts : List (List ℕ)) → map (λ o. o.length) (map stored_global (map global_of globals) ++ map stored_text texts) ≡ map (λ g. g.size) globals ++ map (λ t. length t + 1) texts
lengths_are [] texts = of texts
  where
    of : (texts : List (List ℕ)) → map (λ o. o.length) (map stored_text texts) ≡ map (λ t. length t + 1) texts
    of [] = refl
    of (t ∷ ts) = ap (λ l. (length t + 1) ∷ l) (of ts)
lengths_are (g ∷ gs) texts = ap (λ l. g.size ∷ l) (lengths_are gs texts)

length_numbered : (k : ℕ) (ns : List ℕ) → length (numbered k ns) ≡ length ns
length_numbered k [] = refl
length_numbered k (n ∷ ns) = ap suc (length_numbered (suc k) ns)

abbrev items_are : List Global → List (List ℕ) → List Item
items_are globals texts = numbered 0 (map (λ o. o.length) (map stored_global (map global_of globals) ++ map stored_text texts))

pub few_named : (globals : List Global) (texts : List (List ℕ)) → length globals ≤ total_of SLOT_EXPONENT (items_are globals texts)
few_named globals texts =
    let lengths = map (λ g. g.size) globals in
    let others = map (λ t. length t + 1) texts in
    let count : length (items_are globals texts) ≡ length globals + length others =
    ap (λ ns. length (numbered 0 ns)) (lengths_are globals texts)
    ∙ length_numbered 0 (lengths ++ others)
    ∙ length-append lengths others
    ∙ ap (λ n. n + length others) (length-map globals (λ g. g.size)) in
    omega (arith, count, few SLOT_EXPONENT (items_are globals texts))

pub text_fits : (globals : List Global) (texts : List (List ℕ)) (objects : List Object) (i : ℕ) (t : List ℕ) → AreSmall (items_are globals texts) → map item_of objects ++ numbered (length objects) (map (λ t. length t + 1) (drop i texts)) ≡ numbered 0 (map (λ g. g.size) globals ++ map (λ t. length t + 1) texts) → i < length texts → t ≡ get_or texts i t → length t + 1 ≤ MOST_BYTES
text_fits globals texts objects i t small h lt is =
    let whole = subst AreSmall (ap (numbered 0) (lengths_are globals texts)) small in
    let rest = small_rest (map item_of objects) (numbered (length objects) (map (λ t. length t + 1) (drop i texts))) _ h whole in
    (subst AreSmall (next_in (λ z. numbered (length objects) (map (λ t. length t + 1) z)) texts i t lt is) rest).0

pub all_there : (globals : List Global) (texts : List (List ℕ)) (objects : List Object) (i : ℕ) → map item_of objects ++ numbered (length objects) (map (λ t. length t + 1) (drop i texts)) ≡ numbered 0 (map (λ g. g.size) globals ++ map (λ t. length t + 1) texts) → length texts ≤ i → map item_of objects ≡ items_are globals texts
all_there globals texts objects i h le =
    sym (append-nil (map item_of objects))
    ∙ ap (λ l. map item_of objects ++ l) (sym (end_in (λ z. numbered (length objects) (map (λ t. length t + 1) z)) texts i le))
    ∙ h
    ∙ ap (numbered 0) (sym (lengths_are globals texts))
