-- What a step of typing gives: a value, or the refusal that comes first.
use Rattle.std.specs.Prelude.{◌≡◌, Result, Ok, Err, Bool, cond}
use Rattle.typing_operators.specs.declared.error.TypeError.{TypeError}
use Rattle.typing_operators.specs.declared.error.TypeError.TheVariants.{Unknown, Twice, BadType, NoMain, TooLarge, TooManyParams, TooManyFunctions, Memory}

abbrev pub Rule : Type 0 → Type 0
Rule A = Result A TypeError

infixl 10 ◌>>=◌
abbrev pub ◌>>=◌ : {A B : Type 0} → Rule A → (A → Rule B) → Rule B
(Ok x) >>= f = f x
(Err e) >>= f = Err e

-- where the test holds the rule fails; else it goes on
abbrev pub refuse : {A : Type 0} → Bool → TypeError → Rule A → Rule A
refuse b e go = cond b (Err e) go

-- the refusal is the rule's, unless memory was wanting
abbrev pub Fails : {Y : Type 0} → TypeError → Rule Y → Type 0
Fails (Unknown line name) rule = rule ≡ Err (Unknown line name)
Fails (Twice line name) rule = rule ≡ Err (Twice line name)
Fails (BadType line number) rule = rule ≡ Err (BadType line number)
Fails NoMain rule = rule ≡ Err NoMain
Fails (TooLarge line size) rule = rule ≡ Err (TooLarge line size)
Fails (TooManyParams line) rule = rule ≡ Err (TooManyParams line)
Fails (TooManyFunctions line) rule = rule ≡ Err (TooManyFunctions line)
Fails Memory rule = Unit {0}

-- what was returned, as contracts see it, is what the rule gives
abbrev pub Gives : {X Y : Type 0} → (X → Y) → Result X TypeError → Rule Y → Type 0
Gives view (Ok x) rule = rule ≡ Ok (view x)
Gives view (Err e) rule = Fails e rule

-- the same, with the state that is left
abbrev pub Runs : {X Y S : Type 0} → (X → Y) → S → Result X TypeError → Rule (Y × S) → Type 0
Runs view new (Ok x) rule = rule ≡ Ok (view x, new)
Runs view new (Err e) rule = Fails e rule
