-- Frames are entered and left in both runs.
use Rattle.std.specs.Prelude.{reverse}
use Rattle.std.proofs.Common.{◌≡◌, ℕ, zero, suc, ◌+◌, ◌-◌, ◌*◌, ◌<◌, ◌≤◌, List, [], ◌∷◌, ◌++◌, length, map, All, refl, sym, ap, ◌∙◌, subst, arith, append_assoc, append-nil}
use Rattle.std.proofs.lemmas.List.Elements.{All-head, All-tail}
use Rattle.size_table.specs.declared.memory_map.TheConstants.{STACK_START}
use Rattle.size_table.specs.Blocks.{Block}
use Rattle.size_table.specs.Made.{blocks_from}
use Rattle.block_layout.specs.Layout.{Placed, AreSmall, layout, stack_under}
use Rattle.source_meaning.specs.declared.values.ObjectKind.{ObjectKind}
use Rattle.source_meaning.specs.declared.values.ObjectKind.TheVariants.{Local}
use Rattle.source_meaning.specs.declared.values.Value.{Value}
use Rattle.source_meaning.specs.Objects.{Object}
use Rattle.source_meaning.specs.Worlds.{World, ended, all_ended}
use Rattle.source_meaning.specs.Accounts.{all_made, entered_at, leave}
use Rattle.mid_code.specs.Code.{Function}
use Rattle.mid_code.specs.Meaning.{Point}
use Rattle.mid_code.specs.Runs.{parameters}
use Rattle.flat_code.specs.Told.{Tell, Stamped, tells, output_of, trail_of, AllBy}
use Rattle.flat_code.specs.World.{arguments, FWorld, FPoint, point}
use Rattle.flat_code.specs.Accounts.{make, end, make_all, end_all}
use Rattle.flat_code.specs.Accounts as accounts
use Rattle.injection.specs.Words.{word_of_value}
use Rattle.injection.specs.Memory.{IsValue, SameValues}
use Rattle.injection.specs.Trail.{SafeSites, Says, TrailIsNamed}
use Rattle.injection.specs.Worlds.{Accounted, Stays, Since, Heights}
use Rattle.injection.specs.Laws.{AccountsCompose, AccountsKeep, AccountsGrow, SaysKeep, EntriesKeep, ExitsKeep, FramesAreAlike, FramesAlike, PlacesKeep, exponents, frame_objects, Entered, IsLaid}
use Rattle.injection.specs.Laws as injection
use Rattle.bounds_instr_code.specs.Code.{frame_of}
use Rattle.bounds_instr_keeps.proofs.Meets.{by_later, by_append, Frame, Agrees, Meets}

-- ---- Blocks that come and go

-- a flat world comes after another in which nothing was written and no statement began
pub record Quiet (f t : FWorld) : Type 0 where
  pub depth : t.depth ≡ f.depth
  pub stack : t.stack ≡ f.stack
  pub input : t.input ≡ f.input
  pub time : t.time ≡ f.time
  pub rest : List Stamped
  pub told : t.told ≡ f.told ++ rest
  pub output : output_of (tells rest) ≡ []
  pub trail : trail_of (tells rest) ≡ []
  pub by : AllBy f.time rest

quiet_same : (f : FWorld) → Quiet f f
quiet_same f = record { depth = refl; stack = refl; input = refl; time = refl; rest = []; told = sym (append-nil f.told); output = refl; trail = refl; by = tt }

pub makes_quiet : (bs : List Block) (f : FWorld) → Quiet f (make_all bs f)
makes_quiet [] f = quiet_same f
makes_quiet (b ∷ bs) f = let q = makes_quiet bs (make b f) in record {
  depth = q.depth;
  stack = q.stack;
  input = q.input;
  time = q.time;
  rest = record { time = f.time; what = Tell.Made b.base b.exponent } ∷ q.rest;
  told = q.told ∙ append_assoc f.told (record { time = f.time; what = Tell.Made b.base b.exponent } ∷ []) q.rest;
  output = q.output;
  trail = q.trail;
  by = (omega arith, q.by);
}

pub ends_quiet : (bs : List Block) (f : FWorld) → Quiet f (end_all bs f)
ends_quiet [] f = quiet_same f
ends_quiet (b ∷ bs) f = let q = ends_quiet bs (end b f) in record {
  depth = q.depth;
  stack = q.stack;
  input = q.input;
  time = q.time;
  rest = record { time = f.time; what = Tell.Ended b.base b.exponent } ∷ q.rest;
  told = q.told ∙ append_assoc f.told (record { time = f.time; what = Tell.Ended b.base b.exponent } ∷ []) q.rest;
  output = q.output;
  trail = q.trail;
  by = (omega arith, q.by);
}

-- a world comes after another in which only objects came and went
pub record Alike (w x : World) : Type 0 where
  pub rest : x.rest ≡ w.rest
  pub output : x.output ≡ w.output
  pub depth : x.depth ≡ w.depth
  pub stack : x.stack ≡ w.stack
  pub trail : x.trail ≡ w.trail
  pub bytes : x.bytes ≡ w.bytes

made_alike : (kind : ObjectKind) (start : ℕ) (plan : List Placed) (w : World) → Alike w (all_made kind start plan w)
made_alike kind start [] w = record { rest = refl; output = refl; depth = refl; stack = refl; trail = refl; bytes = refl }
made_alike kind start (placed ∷ plan) w = let a = made_alike kind start plan _ in record { rest = a.rest; output = a.output; depth = a.depth; stack = a.stack; trail = a.trail; bytes = a.bytes }

ended_alike : (n k : ℕ) (w : World) → Alike w (all_ended n k w)
ended_alike zero k w = record { rest = refl; output = refl; depth = refl; stack = refl; trail = refl; bytes = refl }
ended_alike (suc n) k w = let a = ended_alike n (suc k) (ended k w) in record { rest = a.rest; output = a.output; depth = a.depth; stack = a.stack; trail = a.trail; bytes = a.bytes }

pub record FrameLaws : Type 0 where
  pub compose : AccountsCompose
  pub keep : AccountsKeep
  pub grow : AccountsGrow
  pub says : SaysKeep
  pub entries : EntriesKeep
  pub exits : ExitsKeep
  pub frames : FramesAreAlike
  pub places : PlacesKeep

-- ---- Values of a new call

pub arguments_are : (g : ℕ) (os : List Object) (xs : List Value) (i : ℕ) → All (IsValue g os) xs → IsValue g os (parameters xs i) × (arguments (map (word_of_value os) xs) i ≡ word_of_value os (parameters xs i))
arguments_are g os [] i h = (let q : 0 < 4294967296 = omega arith in q, refl)
arguments_are g os (x ∷ xs) zero h = (All-head (IsValue g os) x xs h, refl)
arguments_are g os (x ∷ xs) (suc i) h = arguments_are g os xs i (All-tail (IsValue g os) x xs h)

module _ (laws : FrameLaws) (g : ℕ) (safe : SafeSites) where
  accounts_end : (n k : ℕ) (w : World) → Accounted w.objects (all_ended n k w).objects
  accounts_end zero k w = laws.compose.accounted_same w.objects
  accounts_end (suc n) k w = laws.compose.accounted_then w.objects (ended k w).objects (all_ended n (suc k) (ended k w)).objects (laws.grow.ended w.objects k).0 (accounts_end n (suc k) (ended k w))

  -- what was told goes on to say what the run left behind, when objects and blocks come and go
  says_still : (w x : World) (f t : FWorld) → Accounted w.objects x.objects → Alike w x → Quiet f t → TrailIsNamed g w.objects w.trail → Says safe w f.told → Says safe x t.told
  says_still w x f t accounted alike quiet named says =
      subst (λ z. Says safe x z) (sym quiet.told)
      (laws.says.quiet safe x f.told quiet.rest (laws.says.accounted g safe w x f.told accounted named alike.trail alike.output says) quiet.output quiet.trail)

  named_still : (w x : World) → Accounted w.objects x.objects → Alike w x → TrailIsNamed g w.objects w.trail → TrailIsNamed g x.objects x.trail
  named_still w x accounted alike named = subst (λ z. TrailIsNamed g x.objects z) (sym alike.trail) (laws.keep.trails g safe w.objects x.objects w.trail accounted named).0

  -- the frame of a call
  module _ (big : 1 ≤ g) (small : g ≤ 24) (fr : Frame) (f : Function) (smalls : AreSmall f.blocks) (v : Point) (u : FPoint) where
    abbrev base : ℕ
    base = stack_under g v.world.stack f.blocks

    abbrev pub inner : Frame
    inner = record { values = f.values; objects = v.world.objects ++ frame_objects (stack_under g v.world.stack f.blocks) (layout g f.blocks); stack = stack_under g v.world.stack f.blocks }

    abbrev entered_world : World
    entered_world = entered_at (stack_under g v.world.stack f.blocks) (layout g f.blocks) v.world

    abbrev entered_flat : FWorld
    entered_flat = accounts.enter (stack_under g v.world.stack f.blocks) (frame_of g f) u.world

    pub enters_frame : (s : ℕ) (xs : List Value) → STACK_START ≤ stack_under g v.world.stack f.blocks → All (IsValue g v.world.objects) xs → Agrees g safe fr v.world u.world → u.world.time + s ≤ v.time → AllBy v.time u.world.told
        → Meets g safe inner s (record { world = entered_world; values = parameters xs; time = v.time + 64 * (entered_world.bytes - v.world.bytes) }) (point (arguments (map (word_of_value v.world.objects) xs)) entered_flat)
    enters_frame s xs room formed agrees paid by =
        let w = agrees.world in
        let here = laws.frames g v.world.stack f.blocks big small w.heights.top smalls in
        let start = record v.world { depth = suc v.world.depth; stack = stack_under g v.world.stack f.blocks } in
        let flat_start = record u.world { depth = u.world.depth + 1; stack = stack_under g v.world.stack f.blocks } in
        let e : Entered g (stack_under g v.world.stack f.blocks) (layout g f.blocks) start entered_world entered_flat =
        laws.entries g (stack_under g v.world.stack f.blocks) (layout g f.blocks) start flat_start v.world.stack (here.laid room) room (here.under room) w.injects w.blocks w.heights w.regions in
        let alike : Alike start entered_world = made_alike Local (stack_under g v.world.stack f.blocks) (layout g f.blocks) start in
        let quiet : Quiet flat_start entered_flat = makes_quiet (blocks_from (stack_under g v.world.stack f.blocks) (frame_of g f)) flat_start in
        let grown : Accounted v.world.objects entered_world.objects = subst (Accounted v.world.objects) (sym e.objects) (laws.grow.made v.world.objects (frame_objects (stack_under g v.world.stack f.blocks) (layout g f.blocks))).0 in
        record {
          agrees = record {
            world = record {
              injects = record { out = e.keeps.out; cells = e.keeps.cells; holds = e.keeps.holds };
              blocks = e.blocks;
              depths = quiet.depth ∙ ap (λ n. n + 1) w.depths ∙ (let q : v.world.depth + 1 ≡ suc v.world.depth = omega arith in q) ∙ sym alike.depth;
              stacks = quiet.stack ∙ sym alike.stack;
              inputs = quiet.input ∙ w.inputs ∙ sym alike.rest;
              says = says_still start entered_world flat_start entered_flat grown alike quiet w.named (record { said = w.says.said; went = w.says.went });
              named = named_still start entered_world grown alike w.named;
              heights = subst (λ z. Heights entered_world.objects z) (sym alike.stack) e.heights;
              regions = e.regions;
            };
            accounted = subst (λ z. Accounted z entered_world.objects) e.objects (laws.compose.accounted_same entered_world.objects);
            stays = subst (λ z. Stays z entered_world.objects) e.objects (laws.compose.stays_same entered_world.objects);
            since = subst (λ z. Since z entered_world.objects) e.objects (laws.compose.since_same entered_world.objects);
            own = alike.stack;
            bytes = subst (All (λ b. b < 256)) (sym alike.rest) agrees.bytes;
          };
          values = laws.keep.words g f.values v.world.objects entered_world.objects (parameters xs) (arguments (map (word_of_value v.world.objects) xs)) grown
              (record { each = λ i lt. (arguments_are g v.world.objects xs i formed).1; formed = λ i lt. (arguments_are g v.world.objects xs i formed).0 });
          paid = omega (arith, paid, quiet.time);
          by = subst (λ z. AllBy (v.time + 64 * (entered_world.bytes - v.world.bytes)) z) (sym quiet.told)
              (by_append (v.time + 64 * (entered_world.bytes - v.world.bytes)) u.world.told quiet.rest (by_later v.time (v.time + 64 * (entered_world.bytes - v.world.bytes)) u.world.told (omega arith) by)
              (by_later u.world.time (v.time + 64 * (entered_world.bytes - v.world.bytes)) quiet.rest (omega (arith, paid)) quiet.by));
        }

    -- the frame is left, and the caller's values are there again
    module _ (s : ℕ) (agrees : Agrees g safe fr v.world u.world) (values : SameValues g fr.values v.world.objects v.values u.words) (room : STACK_START ≤ stack_under g v.world.stack f.blocks) (w : Point) (t : FPoint) (h : Meets g safe inner s w t) where
      abbrev after : World
      after = leave f.blocks v.world w.world

      abbrev flat_after : FWorld
      flat_after = accounts.leave (frame_of g f) u.world t.world

      left_frame : injection.Left g v.world.objects after flat_after
      left_frame =
          let here = laws.frames g v.world.stack f.blocks big small agrees.world.heights.top smalls in
          let i = h.agrees.world in
          let l = laws.exits g (stack_under g v.world.stack f.blocks) v.world.stack (layout g f.blocks) v.world.objects w.world t.world (here.laid room) agrees.world.heights.top h.agrees.accounted h.agrees.stays h.agrees.since i.injects i.blocks i.regions in
          let l1 : injection.Left g v.world.objects (all_ended (length f.blocks) (length v.world.objects) w.world) (end_all (reverse (blocks_from (stack_under g v.world.stack f.blocks) (frame_of g f))) t.world) =
          subst (λ n. injection.Left g v.world.objects (all_ended n (length v.world.objects) w.world) (end_all (reverse (blocks_from (stack_under g v.world.stack f.blocks) (frame_of g f))) t.world)) here.count l in
          let l2 : injection.Left g v.world.objects (all_ended (length f.blocks) (length v.world.objects) w.world) (end_all (reverse (blocks_from t.world.stack (frame_of g f))) t.world) =
          subst (λ n. injection.Left g v.world.objects (all_ended (length f.blocks) (length v.world.objects) w.world) (end_all (reverse (blocks_from n (frame_of g f))) t.world)) (sym (i.stacks ∙ h.agrees.own)) l1 in
          record { keeps = l2.keeps; blocks = l2.blocks; accounted = l2.accounted; stays = l2.stays; since = l2.since; regions = l2.regions }

      pub accounts_after : Accounted w.world.objects after.objects
      accounts_after = accounts_end (length f.blocks) (length v.world.objects) w.world

      pub leaves_frame : Meets g safe fr s (record { world = after; values = v.values; time = w.time }) (point u.words flat_after)
      leaves_frame =
          let l = left_frame in
          let i = h.agrees.world in
          let alike : Alike w.world (all_ended (length f.blocks) (length v.world.objects) w.world) = ended_alike (length f.blocks) (length v.world.objects) w.world in
          let quiet : Quiet t.world (end_all (reverse (blocks_from t.world.stack (frame_of g f))) t.world) = ends_quiet (reverse (blocks_from t.world.stack (frame_of g f))) t.world in
          let says : Says safe (all_ended (length f.blocks) (length v.world.objects) w.world) (end_all (reverse (blocks_from t.world.stack (frame_of g f))) t.world).told =
          says_still w.world (all_ended (length f.blocks) (length v.world.objects) w.world) t.world (end_all (reverse (blocks_from t.world.stack (frame_of g f))) t.world) accounts_after alike quiet i.named i.says in
          record {
            agrees = record {
              world = record {
                injects = l.keeps;
                blocks = l.blocks;
                depths = agrees.world.depths;
                stacks = agrees.world.stacks;
                inputs = quiet.input ∙ i.inputs ∙ sym alike.rest;
                says = record { said = says.said; went = says.went };
                named = named_still w.world (all_ended (length f.blocks) (length v.world.objects) w.world) accounts_after alike i.named;
                heights = laws.places.heights_since v.world.objects after.objects v.world.stack agrees.world.heights l.since;
                regions = l.regions;
              };
              accounted = laws.compose.accounted_then fr.objects v.world.objects after.objects agrees.accounted l.accounted;
              stays = laws.compose.stays_then fr.objects v.world.objects after.objects agrees.stays l.stays;
              since = laws.compose.since_then fr.objects v.world.objects after.objects agrees.since l.since;
              own = agrees.own;
              bytes = subst (All (λ b. b < 256)) (sym alike.rest) h.agrees.bytes;
            };
            values = laws.keep.words g fr.values v.world.objects after.objects v.values u.words l.accounted values;
            paid = omega (arith, h.paid, quiet.time);
            by = subst (λ z. AllBy w.time z) (sym quiet.told) (by_append w.time t.world.told quiet.rest h.by (by_later t.world.time w.time quiet.rest (omega (arith, h.paid)) quiet.by));
          }
