-- What an item does to facts is its effect.
use Rattle.std.proofs.Common.{◌≡◌, refl}
use Rattle.flat_code.specs.Code.{FStep}
use Rattle.flat_discipline.specs.Items.{Item}
use Rattle.flat_discipline.specs.Facts.{Fact, Setting, Here, source}
use Rattle.flat_verify.specs.Effects.{effect, source_by}

pub plain_effect : (s : Setting) (h : Here) (x : FStep) (fact : Fact) → source_by (effect s h (Item.Plain x)) fact ≡ source s h (Item.Plain x) fact
plain_effect s h (FStep.Number a b) (Fact.Clean v) = refl
plain_effect s h (FStep.Number a b) (Fact.Own v) = refl
plain_effect s h (FStep.Number a b) (Fact.Spanned v n) = refl
plain_effect s h (FStep.Same a b) (Fact.Clean v) = refl
plain_effect s h (FStep.Same a b) (Fact.Own v) = refl
plain_effect s h (FStep.Same a b) (Fact.Spanned v n) = refl
plain_effect s h (FStep.Arith a b c d) (Fact.Clean v) = refl
plain_effect s h (FStep.Arith a b c d) (Fact.Own v) = refl
plain_effect s h (FStep.Arith a b c d) (Fact.Spanned v n) = refl
plain_effect s h (FStep.If a b c) (Fact.Clean v) = refl
plain_effect s h (FStep.If a b c) (Fact.Own v) = refl
plain_effect s h (FStep.If a b c) (Fact.Spanned v n) = refl
plain_effect s h (FStep.Block a) (Fact.Clean v) = refl
plain_effect s h (FStep.Block a) (Fact.Own v) = refl
plain_effect s h (FStep.Block a) (Fact.Spanned v n) = refl
plain_effect s h (FStep.Loop a) (Fact.Clean v) = refl
plain_effect s h (FStep.Loop a) (Fact.Own v) = refl
plain_effect s h (FStep.Loop a) (Fact.Spanned v n) = refl
plain_effect s h (FStep.Inner a) (Fact.Clean v) = refl
plain_effect s h (FStep.Inner a) (Fact.Own v) = refl
plain_effect s h (FStep.Inner a) (Fact.Spanned v n) = refl
plain_effect s h (FStep.Exit a) (Fact.Clean v) = refl
plain_effect s h (FStep.Exit a) (Fact.Own v) = refl
plain_effect s h (FStep.Exit a) (Fact.Spanned v n) = refl
plain_effect s h (FStep.Call a b c) (Fact.Clean v) = refl
plain_effect s h (FStep.Call a b c) (Fact.Own v) = refl
plain_effect s h (FStep.Call a b c) (Fact.Spanned v n) = refl
plain_effect s h (FStep.Return a) (Fact.Clean v) = refl
plain_effect s h (FStep.Return a) (Fact.Own v) = refl
plain_effect s h (FStep.Return a) (Fact.Spanned v n) = refl
plain_effect s h (FStep.Slot a b) (Fact.Clean v) = refl
plain_effect s h (FStep.Slot a b) (Fact.Own v) = refl
plain_effect s h (FStep.Slot a b) (Fact.Spanned v n) = refl
plain_effect s h (FStep.Look a b) (Fact.Clean v) = refl
plain_effect s h (FStep.Look a b) (Fact.Own v) = refl
plain_effect s h (FStep.Look a b) (Fact.Spanned v n) = refl
plain_effect s h (FStep.FrameAt a b) (Fact.Clean v) = refl
plain_effect s h (FStep.FrameAt a b) (Fact.Own v) = refl
plain_effect s h (FStep.FrameAt a b) (Fact.Spanned v n) = refl
plain_effect s h (FStep.Load a b c) (Fact.Clean v) = refl
plain_effect s h (FStep.Load a b c) (Fact.Own v) = refl
plain_effect s h (FStep.Load a b c) (Fact.Spanned v n) = refl
plain_effect s h (FStep.Store a b c) (Fact.Clean v) = refl
plain_effect s h (FStep.Store a b c) (Fact.Own v) = refl
plain_effect s h (FStep.Store a b c) (Fact.Spanned v n) = refl
plain_effect s h (FStep.Checked a b) (Fact.Clean v) = refl
plain_effect s h (FStep.Checked a b) (Fact.Own v) = refl
plain_effect s h (FStep.Checked a b) (Fact.Spanned v n) = refl
plain_effect s h (FStep.LineMark a) (Fact.Clean v) = refl
plain_effect s h (FStep.LineMark a) (Fact.Own v) = refl
plain_effect s h (FStep.LineMark a) (Fact.Spanned v n) = refl
plain_effect s h (FStep.Report a b) (Fact.Clean v) = refl
plain_effect s h (FStep.Report a b) (Fact.Own v) = refl
plain_effect s h (FStep.Report a b) (Fact.Spanned v n) = refl
plain_effect s h (FStep.Env a b c d) (Fact.Clean v) = refl
plain_effect s h (FStep.Env a b c d) (Fact.Own v) = refl
plain_effect s h (FStep.Env a b c d) (Fact.Spanned v n) = refl

pub item_effect : (s : Setting) (h : Here) (i : Item) (fact : Fact) → source_by (effect s h i) fact ≡ source s h i fact
item_effect s h (Item.Plain x) fact = plain_effect s h x fact
item_effect s h (Item.Checks q) fact = refl
item_effect s h (Item.If c x y) fact = refl
item_effect s h (Item.Block x) fact = refl
item_effect s h (Item.Loop x) fact = refl
item_effect s h (Item.Inner x) fact = refl
