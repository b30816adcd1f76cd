-- The demands of sequences and of choices, put together.
use Rattle.std.proofs.Common.{◌≡◌, ℕ, ◌+◌, true, List, [], ◌∷◌, ◌++◌, Some, sym, ap, ◌∙◌, append_assoc, map}
use Rattle.std.specs.Prelude.{nat_lt}
use Rattle.std.proofs.lemmas.List.{map-append}
use Rattle.flat_code.specs.Code.{FSteps}
use Rattle.flat_code.specs.Recognized.{Sequence, sequence_steps}
use Rattle.flat_verify.specs.declared.facts.Demand.{Demand as DemandWritten}
use Rattle.flat_discipline.specs.Items.{Item, all_places, first_place}
use Rattle.flat_discipline.specs.Facts.{Fact, Setting, Here, untold, branch}
use Rattle.flat_verify.specs.Effects.{Effect}
use Rattle.flat_discipline.specs.Breaks.{operands, pointer, pointer_use}
use Rattle.flat_verify.specs.Links.{Link, goes, links, links_all, body_links, Demand, demand, all_inside, demands, demands_all}
use Rattle.flat_verify.specs.declared.items.FlatItem.{FlatItem}
use Rattle.flat_verify.specs.ItemViews.{as_items}
use Rattle.flat_verify.specs.Views.{demand_of}

more : {A : Type 0} (p0 p1 p2 a b : List A) → p1 ≡ p0 ++ a → p2 ≡ p1 ++ b → p2 ≡ p0 ++ (a ++ b)
more p0 p1 p2 a b e f = f ∙ ap (λ p. p ++ b) e ∙ append_assoc p0 a b

pushed : (old new : List DemandWritten) (d : DemandWritten) → new ≡ old ++ d ∷ [] → map demand_of new ≡ map demand_of old ++ demand_of d ∷ []
pushed old new d e = ap (map demand_of) e ∙ map-append demand_of old (d ∷ [])

pub sequence_made : (s : Setting) (g levels place used value later : ℕ) (q : Sequence) (given : List ℕ) (steps : FSteps) (old : List DemandWritten) (d : DemandWritten) (mid : List DemandWritten) (new : List Demand)
    → mid ≡ old ++ d ∷ [] → demand_of d ≡ demand used place true (Fact.Clean value ∷ []) → value ≡ pointer q → later ≡ pointer_use q → used ≡ place + later → given ≡ operands q → steps ≡ sequence_steps g q
    → new ≡ map demand_of mid ++ all_inside s given place levels steps place → new ≡ map demand_of old ++ demands g s levels (Item.Checks q) place
sequence_made s g levels place used value later q given steps old d mid new push is v l u gives made all =
    let one : demand_of d ≡ demand (place + pointer_use q) place true (Fact.Clean (pointer q) ∷ []) =
    is ∙ ap (λ n. demand n place true (Fact.Clean value ∷ [])) (u ∙ ap (λ n. place + n) l) ∙ ap (λ n. demand (place + pointer_use q) place true (Fact.Clean n ∷ [])) v in
    let whole : new ≡ map demand_of mid ++ all_inside s (operands q) place levels (sequence_steps g q) place =
    all ∙ ap (λ xs. map demand_of mid ++ all_inside s xs place levels steps place) gives ∙ ap (λ xs. map demand_of mid ++ all_inside s (operands q) place levels xs place) made in
    more (map demand_of old) (map demand_of mid) new (demand (place + pointer_use q) place true (Fact.Clean (pointer q) ∷ []) ∷ []) (all_inside s (operands q) place levels (sequence_steps g q) place)
    (pushed old mid d push ∙ ap (λ x. map demand_of old ++ x ∷ []) one) whole

pub choice_made : (s : Setting) (g levels place first size second cond : ℕ) (a a1 a2 b b1 : List FlatItem) (x : Item) (old : List DemandWritten) (d : DemandWritten) (m1 : List DemandWritten) (m2 m3 : List Demand)
    → x ≡ Item.If cond (as_items a) (as_items b) → m1 ≡ old ++ d ∷ [] → demand_of d ≡ demand place place (nat_lt cond s.values) (Fact.Own cond ∷ []) → first ≡ place + 1
    → a1 ≡ a → m2 ≡ map demand_of m1 ++ demands_all g s levels (as_items a1) first → a2 ≡ a → size ≡ all_places g (as_items a2) → second ≡ first + size
    → b1 ≡ b → m3 ≡ m2 ++ demands_all g s levels (as_items b1) second → m3 ≡ map demand_of old ++ demands g s levels x place
choice_made s g levels place first size second cond a a1 a2 b b1 x old d m1 m2 m3 is push one ef e1 h2 e2 es ec e3 h3 =
    let y = as_items a in
    let z = as_items b in
    let behind : second ≡ place + 1 + all_places g y = ec ∙ ap (λ n. n + size) ef ∙ ap (λ n. place + 1 + n) (es ∙ ap (λ l. all_places g (as_items l)) e2) in
    let p1 = pushed old m1 d push ∙ ap (λ w. map demand_of old ++ w ∷ []) one in
    let p2 = h2 ∙ ap (λ l. map demand_of m1 ++ demands_all g s levels (as_items l) first) e1 ∙ ap (λ n. map demand_of m1 ++ demands_all g s levels y n) ef in
    let p3 = h3 ∙ ap (λ l. m2 ++ demands_all g s levels (as_items l) second) e3 ∙ ap (λ n. m2 ++ demands_all g s levels z n) behind in
    let head = demand place place (nat_lt cond s.values) (Fact.Own cond ∷ []) ∷ [] in
    let front = demands_all g s levels y (place + 1) in
    let rear = demands_all g s levels z (place + 1 + all_places g y) in
    more (map demand_of old) (map demand_of m1) m3 head (front ++ rear) p1 (more (map demand_of m1) m2 m3 front rear p2 p3) ∙ ap (λ i. map demand_of old ++ demands g s levels i place) (sym is)

-- ---- Links

pub ways_made : (s : Setting) (g : ℕ) (h inside none : Here) (place first size second after e1 e2 cond : ℕ) (exits : List ℕ) (a a1 a2 a3 b b1 b2 : List FlatItem) (x : Item) (l0 l1 l2 l3 l4 : List Link)
    → x ≡ Item.If cond (as_items a) (as_items b) → first ≡ place + 1 → a1 ≡ a → size ≡ all_places g (as_items a1) → second ≡ first + size
    → a2 ≡ a → e1 ≡ first_place (as_items a2) first after → l1 ≡ l0 ++ goes Effect.KeepsFacts place (Some e1)
    → b1 ≡ b → e2 ≡ first_place (as_items b1) second after → l2 ≡ l1 ++ goes Effect.KeepsFacts place (Some e2)
    → inside ≡ branch h cond → a3 ≡ a → l3 ≡ l2 ++ links_all g s inside (as_items a3) first after exits
    → none ≡ untold → b2 ≡ b → l4 ≡ l3 ++ links_all g s none (as_items b2) second after exits
    → l4 ≡ l0 ++ links g s h x place after exits
ways_made s g h inside none place first size second after e1 e2 cond exits a a1 a2 a3 b b1 b2 x l0 l1 l2 l3 l4 is ef a1s es ec a2s f1 h1 b1s f2 h2 ins a3s h3 non b2s h4 =
    let y = as_items a in
    let z = as_items b in
    let second_is = place + 1 + all_places g y in
    let behind : second ≡ place + 1 + all_places g y = ec ∙ ap (λ n. n + size) ef ∙ ap (λ n. place + 1 + n) (es ∙ ap (λ l. all_places g (as_items l)) a1s) in
    let t1 : e1 ≡ first_place y (place + 1) after = f1 ∙ ap (λ l. first_place (as_items l) first after) a2s ∙ ap (λ n. first_place y n after) ef in
    let t2 : e2 ≡ first_place z second_is after = f2 ∙ ap (λ l. first_place (as_items l) second after) b1s ∙ ap (λ n. first_place z n after) behind in
    let w1 = Link.Goes Effect.KeepsFacts place (first_place y (place + 1) after) ∷ [] in
    let w2 = Link.Goes Effect.KeepsFacts place (first_place z second_is after) ∷ [] in
    let front = links_all g s (branch h cond) y (place + 1) after exits in
    let rear = links_all g s untold z second_is after exits in
    let q1 : l1 ≡ l0 ++ w1 = h1 ∙ ap (λ n. l0 ++ Link.Goes Effect.KeepsFacts place n ∷ []) t1 in
    let q2 : l2 ≡ l1 ++ w2 = h2 ∙ ap (λ n. l1 ++ Link.Goes Effect.KeepsFacts place n ∷ []) t2 in
    let q3 : l3 ≡ l2 ++ front = h3 ∙ ap (λ u. l2 ++ links_all g s u (as_items a3) first after exits) ins ∙ ap (λ l. l2 ++ links_all g s (branch h cond) (as_items l) first after exits) a3s ∙ ap (λ n. l2 ++ links_all g s (branch h cond) y n after exits) ef in
    let q4 : l4 ≡ l3 ++ rear = h4 ∙ ap (λ u. l3 ++ links_all g s u (as_items b2) second after exits) non ∙ ap (λ l. l3 ++ links_all g s untold (as_items l) second after exits) b2s ∙ ap (λ n. l3 ++ links_all g s untold z n after exits) behind in
    more l0 l1 l4 w1 (w2 ++ (front ++ rear)) q1 (more l1 l2 l4 w2 (front ++ rear) q2 (more l2 l3 l4 front rear q3 q4)) ∙ ap (λ i. l0 ++ links g s h i place after exits) (sym is)

-- what leads into a construct, and its links
pub entered : (s : Setting) (g : ℕ) (none : Here) (place first after e : ℕ) (exits : List ℕ) (a : List FlatItem) (l0 l1 l2 : List Link)
    → first ≡ place + 1 → e ≡ first_place (as_items a) first after → l1 ≡ l0 ++ goes Effect.KeepsFacts place (Some e)
    → none ≡ untold → l2 ≡ l1 ++ links_all g s none (as_items a) first after exits
    → l2 ≡ l0 ++ (Link.Goes Effect.KeepsFacts place (first_place (as_items a) (place + 1) after) ∷ links_all g s untold (as_items a) (place + 1) after exits)
entered s g none place first after e exits a l0 l1 l2 ef f1 h1 non h2 =
    let y = as_items a in
    let t1 : e ≡ first_place y (place + 1) after = f1 ∙ ap (λ n. first_place y n after) ef in
    let w1 = Link.Goes Effect.KeepsFacts place (first_place y (place + 1) after) ∷ [] in
    let q1 : l1 ≡ l0 ++ w1 = h1 ∙ ap (λ n. l0 ++ Link.Goes Effect.KeepsFacts place n ∷ []) t1 in
    let q2 : l2 ≡ l1 ++ links_all g s untold y (place + 1) after exits = h2 ∙ ap (λ u. l1 ++ links_all g s u y first after exits) non ∙ ap (λ n. l1 ++ links_all g s untold y n after exits) ef in
    more l0 l1 l2 w1 (links_all g s untold y (place + 1) after exits) q1 q2

-- the links of a construct of the one kind and of the others, by those of its body
pub block_made : (s : Setting) (g : ℕ) (h : Here) (place after : ℕ) (exits around : List ℕ) (a a1 : List FlatItem) (x : Item) (l0 l2 : List Link) → x ≡ Item.Block (as_items a) → a1 ≡ a → around ≡ after ∷ exits
    → l2 ≡ l0 ++ (Link.Goes Effect.KeepsFacts place (first_place (as_items a1) (place + 1) after) ∷ links_all g s untold (as_items a1) (place + 1) after around)
    → l2 ≡ l0 ++ links g s h x place after exits
block_made s g h place after exits around a a1 x l0 l2 is same ar made =
    made ∙ ap (λ l. l0 ++ (Link.Goes Effect.KeepsFacts place (first_place (as_items l) (place + 1) after) ∷ links_all g s untold (as_items l) (place + 1) after around)) same
    ∙ ap (λ e. l0 ++ (Link.Goes Effect.KeepsFacts place (first_place (as_items a) (place + 1) after) ∷ links_all g s untold (as_items a) (place + 1) after e)) ar
    ∙ ap (λ i. l0 ++ links g s h i place after exits) (sym is)

turning : (s : Setting) (g place after : ℕ) (exits around : List ℕ) (a a1 : List FlatItem) (l0 l2 : List Link) → a1 ≡ a → around ≡ after ∷ exits
    → l2 ≡ l0 ++ (Link.Goes Effect.KeepsFacts place (first_place (as_items a1) (place + 1) place) ∷ links_all g s untold (as_items a1) (place + 1) place around)
    → l2 ≡ l0 ++ (Link.Goes Effect.KeepsFacts place (first_place (as_items a) (place + 1) place) ∷ links_all g s untold (as_items a) (place + 1) place (after ∷ exits))
turning s g place after exits around a a1 l0 l2 same ar made =
    made ∙ ap (λ l. l0 ++ (Link.Goes Effect.KeepsFacts place (first_place (as_items l) (place + 1) place) ∷ links_all g s untold (as_items l) (place + 1) place around)) same
    ∙ ap (λ e. l0 ++ (Link.Goes Effect.KeepsFacts place (first_place (as_items a) (place + 1) place) ∷ links_all g s untold (as_items a) (place + 1) place e)) ar

pub loop_made : (s : Setting) (g : ℕ) (h : Here) (place after : ℕ) (exits around : List ℕ) (a a1 : List FlatItem) (x : Item) (l0 l2 : List Link) → x ≡ Item.Loop (as_items a) → a1 ≡ a → around ≡ after ∷ exits
    → l2 ≡ l0 ++ (Link.Goes Effect.KeepsFacts place (first_place (as_items a1) (place + 1) place) ∷ links_all g s untold (as_items a1) (place + 1) place around)
    → l2 ≡ l0 ++ links g s h x place after exits
loop_made s g h place after exits around a a1 x l0 l2 is same ar made = turning s g place after exits around a a1 l0 l2 same ar made ∙ ap (λ i. l0 ++ links g s h i place after exits) (sym is)

pub inner_made : (s : Setting) (g : ℕ) (h : Here) (place after : ℕ) (exits around : List ℕ) (a a1 : List FlatItem) (x : Item) (l0 l2 : List Link) → x ≡ Item.Inner (as_items a) → a1 ≡ a → around ≡ after ∷ exits
    → l2 ≡ l0 ++ (Link.Goes Effect.KeepsFacts place (first_place (as_items a1) (place + 1) place) ∷ links_all g s untold (as_items a1) (place + 1) place around)
    → l2 ≡ l0 ++ links g s h x place after exits
inner_made s g h place after exits around a a1 x l0 l2 is same ar made = turning s g place after exits around a a1 l0 l2 same ar made ∙ ap (λ i. l0 ++ links g s h i place after exits) (sym is)

-- the links of a whole body
pub body_made : (s : Setting) (g : ℕ) (h : Here) (after : ℕ) (exits : List ℕ) (a : List FlatItem) (l0 new : List Link) → after ≡ all_places g (as_items a) → h ≡ untold → exits ≡ [] → l0 ≡ []
    → new ≡ l0 ++ links_all g s h (as_items a) 0 after exits → new ≡ body_links g s (as_items a)
body_made s g h after exits a l0 new af un ex em made =
    made ∙ ap (λ l. l ++ links_all g s h (as_items a) 0 after exits) em ∙ ap (λ u. links_all g s u (as_items a) 0 after exits) un ∙ ap (λ xs. links_all g s untold (as_items a) 0 after xs) ex
    ∙ ap (λ n. links_all g s untold (as_items a) 0 n []) af
