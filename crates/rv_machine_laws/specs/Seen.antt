-- What a watcher of a run was told.
use Rattle.std.specs.Prelude.{◌≡◌, ◌≢◌, ℕ, Bool, true, false, List, [], ◌++◌}
use Rattle.bb_watch.specs.declared.event.Event.{Event}
use Rattle.bb_watch.specs.declared.event.Kinds.{Kinds}
use Rattle.bb_watch.specs.Kinds.{of_kinds}

-- Of these events, those that a watcher of these kinds was told that was not done: those of its kinds, in order, up to
-- and with the one at which it was done, if it then was.
pub record ToldUntilDone (kinds : Kinds) (done : Bool) (events delivered : List Event) : Type 0 where
  pub rest : List Event
  pub front : of_kinds kinds events ≡ delivered ++ rest
  pub all : done ≡ false → rest ≡ []
  pub some : done ≡ true → delivered ≢ []

-- a watcher that was done is told nothing, and stays so
abbrev pub Delivered : Kinds → (before after : Bool) → (events delivered : List Event) → Type 0
Delivered kinds true after events delivered = (after ≡ true) × (delivered ≡ [])
Delivered kinds false after events delivered = ToldUntilDone kinds after events delivered

-- Watchers have kinds, are done or not, stand for lists of events, and show bytes after further events. This one was
-- told of a run.
pub record Seen {W : Type 0} (kinds : W → Kinds) (done : W → Bool) (stands_for : W → List Event → Type 0)
    (shown_after : W → List Event → List ℕ) (old new : W) (events : List Event) : Type 0 where
  pub delivered : List Event
  pub told : Delivered (kinds old) (done old) (done new) events delivered
  pub stands : (list : List Event) → stands_for old list → stands_for new (list ++ delivered)
  pub shows : shown_after new [] ≡ shown_after old events
