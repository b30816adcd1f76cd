-- The parts that are selected for flat code, as a function on it.
--
-- A function has its number as a label. All other labels come after these: each item has those from a number on.
use Rattle.std.specs.Prelude.{◌==◌, ℕ, zero, suc, ◌+◌, ◌-◌, ◌/◌, ◌%◌, Bool, true, false}
use Rattle.std.specs.Prelude.{min, if◌then◌else◌, List, [], ◌∷◌, ◌++◌, length, Option, None}
use Rattle.bb_words.specs.Numbers.{product}
use Rattle.flat_code.specs.Code.{FFunction, FCode}
use Rattle.flat_discipline.specs.Items.{Item, Items, items_of}
use Rattle.rv_asm.specs.declared.parts.BranchOp.TheVariants as branch
use Rattle.rv_asm.specs.declared.parts.Part.{Part}
use Rattle.rv_asm.specs.declared.parts.Part.TheVariants.{Plain, Label, Branch, Jump}
use Rattle.rv_code.specs.declared.instr.Instr.{Instr}
use Rattle.rv_code.specs.declared.instr.Instr.TheVariants.{Lui, Addi, Jalr}
use Rattle.size_table.specs.declared.memory_map.TheConstants.{TABLE_START, HEAP_START}
use Rattle.rv_selected.specs.Registers.{cell, frame_bytes, negative, load, store, constant}
use Rattle.rv_selected.specs.Steps.{plains, fetch, held_after, call_code, step_parts}
use Rattle.rv_selected.specs.Checks.{sequence_parts, sequence_labels}

-- ---- Items

-- how many labels the parts of items have
abbrev mutual
  pub item_labels : Item → ℕ
  item_labels (Item.Plain s) = 0
  item_labels (Item.Checks q) = sequence_labels q
  item_labels (Item.If cond first second) = 2 + items_labels first + items_labels second
  item_labels (Item.Block body) = 1 + items_labels body
  item_labels (Item.Loop body) = 2 + items_labels body
  item_labels (Item.Inner body) = 2 + items_labels body

  pub items_labels : Items → ℕ
  items_labels Items.end = 0
  items_labels (Items.next i rest) = item_labels i + items_labels rest

abbrev pub is_end : Items → Bool
is_end Items.end = true
is_end (Items.next i rest) = false

-- The first parts where the word in x5 is not 0, else the second ones. Where one of both has no steps, no jump is needed.
abbrev pub choice_parts : (no_first no_second : Bool) → (n : ℕ) → (first second : List Part) → List Part
choice_parts true no_second n first second = Branch branch.Bne 5 0 n ∷ second ++ Label n ∷ Label (n + 1) ∷ []
choice_parts false true n first second = Branch branch.Beq 5 0 n ∷ first ++ Label n ∷ Label (n + 1) ∷ []
choice_parts false false n first second = Branch branch.Beq 5 0 n ∷ first ++ Jump 0 (n + 1) ∷ Label n ∷ second ++ Label (n + 1) ∷ []

-- a loop, with the label of its begin and the one behind it
abbrev pub loop_parts : (n : ℕ) → (body : List Part) → List Part
loop_parts n body = Label n ∷ body ++ Jump 0 n ∷ Label (n + 1) ∷ []

-- which value x5 holds behind an item
abbrev pub held_behind : (known : Option ℕ) → Item → Option ℕ
held_behind known (Item.Plain s) = held_after known s
held_behind known i = None

-- The parts of items in a function with the label `back` at its end, in constructs with the labels `exits` behind them,
-- the innermost first; `known` is the value that x5 holds before them.
module _ (g back : ℕ) where
  abbrev mutual
    pub item_parts : (known : Option ℕ) → (exits : List ℕ) → (n : ℕ) → Item → List Part
    item_parts known exits n (Item.Plain s) = step_parts g back known exits s
    item_parts known exits n (Item.Checks q) = sequence_parts g n q
    item_parts known exits n (Item.If cond first second) =
        plains (fetch known cond)
        ++ choice_parts (is_end first) (is_end second) n (items_parts None exits (n + 2) first) (items_parts None exits (n + 2 + items_labels first) second)
    item_parts known exits n (Item.Block body) = items_parts known (n ∷ exits) (n + 1) body ++ Label n ∷ []
    item_parts known exits n (Item.Loop body) = loop_parts n (items_parts None ((n + 1) ∷ exits) (n + 2) body)
    item_parts known exits n (Item.Inner body) = loop_parts n (items_parts None ((n + 1) ∷ exits) (n + 2) body)

    pub items_parts : (known : Option ℕ) → (exits : List ℕ) → (n : ℕ) → Items → List Part
    items_parts known exits n Items.end = []
    items_parts known exits n (Items.next i rest) = item_parts known exits n i ++ items_parts (held_behind known i) exits (n + item_labels i) rest

-- ---- Functions

-- So many words from word v of x2 on become 0.
abbrev pub zeros : (count v : ℕ) → List Instr
zeros zero v = []
zeros (suc n) v = store 0 v ∷ zeros n (v + 1)

-- Words that become 0 are pushed, eight in each turn of a loop; x6 becomes the last place of x2.
abbrev pub zero_loop : (n turns : ℕ) → List Part
zero_loop n turns =
    Plain (Addi 6 2 (negative (product 32 turns))) ∷ Label n ∷ Plain (Addi 2 2 (negative 32)) ∷ plains (zeros 8 0) ++ Branch branch.Bne 2 6 n ∷ []

abbrev pub zero_loop_if : (n turns : ℕ) → List Part
zero_loop_if n turns = if turns == 0 then Label n ∷ [] else zero_loop n turns

-- arguments are stored in words from v on
abbrev pub parameters : (count v : ℕ) → List Instr
parameters zero v = []
parameters (suc n) v = store (18 + v) v ∷ parameters n (v + 1)

-- The parameters are pushed, of which there are at most eight.
abbrev pub parameters_code : (params : ℕ) → List Instr
parameters_code params = Addi 2 2 (negative (cell params)) ∷ parameters (min params 8) 0

abbrev pub parameters_if : (params : ℕ) → List Instr
parameters_if params = if params == 0 then [] else parameters_code params

-- The control frame is pushed: the place to return to, the values that are not parameters, and the parameters.
abbrev pub frame_parts : (n params values : ℕ) → List Part
frame_parts n params values =
    let others = values - params in
    Plain (Addi 2 2 (negative (frame_bytes (others % 8)))) ∷ Plain (store 1 (others % 8)) ∷ plains (zeros (others % 8) 0)
    ++ zero_loop_if n (others / 8) ++ plains (parameters_if params)

-- function k enters its frame and leaves it; a body of the library, whose line is 0, has none
abbrev pub enter_code : (k line : ℕ) → List Instr
enter_code k line = if line == 0 then [] else constant 10 k ++ constant 11 line ++ call_code 7 ++ Addi 8 10 0 ∷ []

abbrev pub leave_code : (k line : ℕ) → List Instr
leave_code k line = if line == 0 then [] else constant 10 k ++ call_code 8 ++ Addi 8 10 0 ∷ []

-- the control frame goes, and the call returns
abbrev pub return_code : (k line values : ℕ) → List Instr
return_code k line values = load 1 values ∷ Addi 2 2 (frame_bytes values) ∷ leave_code k line ++ Jalr 0 1 0 ∷ []

-- The parts of function k, with the labels from n on.
abbrev pub function_parts : (g k n : ℕ) → FFunction → List Part
function_parts g k n f =
    Label k ∷ plains (enter_code k f.line) ++ frame_parts (n + 1) f.params f.values
    ++ items_parts g n None [] (n + 2) (items_of g f.body)
    ++ Plain (Addi 9 0 0) ∷ Label n ∷ plains (return_code k f.line f.values)

abbrev pub function_labels : (g : ℕ) → FFunction → ℕ
function_labels g f = 2 + items_labels (items_of g f.body)

abbrev pub functions_labels : (g : ℕ) → List FFunction → ℕ
functions_labels g [] = 0
functions_labels g (f ∷ fs) = function_labels g f + functions_labels g fs

abbrev pub functions_parts : (g k n : ℕ) → List FFunction → List Part
functions_parts g k n [] = []
functions_parts g k n (f ∷ fs) = function_parts g k n f ++ functions_parts g (k + 1) (n + function_labels g f) fs

-- The start code calls the first function, and exits with the word that it returns.
abbrev pub start_parts : (main : ℕ) → List Part
start_parts main =
    Plain (Lui 8 HEAP_START) ∷ Plain (Lui 26 TABLE_START) ∷ Jump 1 main ∷ plains (Addi 10 9 0 ∷ call_code 1)

-- the parts of a program, for slots of 2 ^ g bytes; the start code comes first
abbrev pub selected : (g : ℕ) → FCode → List Part
selected g code = start_parts code.main ++ functions_parts g 0 (length code.functions) code.functions
