-- Copies and sets of cells are those of bytes.
use Rattle.std.proofs.Common.{◌≡◌, ℕ, zero, suc, ◌+◌, ◌%◌, ◌<◌, ◌≤◌, List, sym, ap, ◌∙◌, subst, arith}
use Rattle.source_meaning.specs.declared.values.Cell.{Cell}
use Rattle.source_meaning.specs.declared.values.Cell.TheVariants.{Byte, Part}
use Rattle.source_meaning.specs.Objects.{Object, Cells, with_cell, copied, all_set}
use Rattle.flat_code.specs.World.{Memory, with_byte}
use Rattle.injection.specs.Words.{byte_of}
use Rattle.injection.specs.Memory.{IsLive, IsCell, Injects}
use Rattle.injection.specs.Copies.{copied_bytes, set_bytes}
use Rattle.injection.proofs.Stores.{cell_keeps}

byte_small : (g : ℕ) (os : List Object) (c : Cell) → IsCell g os c → byte_of os c % 256 ≡ byte_of os c
byte_small g os (Byte b) h = omega (arith, h)
byte_small g os (Part k p) h = omega arith

pub copied_keeps : (g n k i j t : ℕ) (o p : Object) (os : List Object) (cs : Cells) (memory : Memory) → IsLive os k o → IsLive os j p → i + n ≤ o.length → t + n ≤ p.length → Injects g os cs memory → Injects g os (copied n cs k i j t) (copied_bytes n (o.base + i) (p.base + t) memory)
copied_keeps g zero k i j t o p os cs memory l r a b h = h
copied_keeps g (suc n) k i j t o p os cs memory l r a b h =
    let byte : memory (o.base + i) % 256 ≡ byte_of os (cs k i) = ap (λ x. x % 256) (h.holds.bytes k o i l (omega (arith, a))) ∙ byte_small g os (cs k i) (h.cells k i) in
    let one = cell_keeps g os cs memory j p t (cs k i) r (omega (arith, b)) (h.cells k i) h in
    let here = subst (λ x. Injects g os (with_cell cs j t (cs k i)) (with_byte memory (p.base + t) x)) (sym byte) one in
    let rest = copied_keeps g n k (i + 1) j (t + 1) o p os (with_cell cs j t (cs k i)) (with_byte memory (p.base + t) (memory (o.base + i) % 256)) l r (omega (arith, a)) (omega (arith, b)) here in
    let e : o.base + (i + 1) ≡ o.base + i + 1 = omega arith in
    let f : p.base + (t + 1) ≡ p.base + t + 1 = omega arith in
    subst (λ x. Injects g os (copied (suc n) cs k i j t) (copied_bytes n (o.base + i + 1) x (with_byte memory (p.base + t) (memory (o.base + i) % 256)))) f
    (subst (λ x. Injects g os (copied (suc n) cs k i j t) (copied_bytes n x (p.base + (t + 1)) (with_byte memory (p.base + t) (memory (o.base + i) % 256)))) e rest)

pub set_keeps : (g n k i byte : ℕ) (o : Object) (os : List Object) (cs : Cells) (memory : Memory) → IsLive os k o → i + n ≤ o.length → byte < 256 → Injects g os cs memory → Injects g os (all_set n cs k i byte) (set_bytes n (o.base + i) byte memory)
set_keeps g zero k i byte o os cs memory l a small h = h
set_keeps g (suc n) k i byte o os cs memory l a small h =
    let one = cell_keeps g os cs memory k o i (Byte byte) l (omega (arith, a)) small h in
    let rest = set_keeps g n k (i + 1) byte o os (with_cell cs k i (Byte byte)) (with_byte memory (o.base + i) byte) l (omega (arith, a)) small one in
    let e : o.base + (i + 1) ≡ o.base + i + 1 = omega arith in
    subst (λ x. Injects g os (all_set (suc n) cs k i byte) (set_bytes n x byte (with_byte memory (o.base + i) byte))) e rest
