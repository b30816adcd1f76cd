-- What the calls of a source and of a sink do to a run.
use Rattle.std.proofs.Common.{◌≡◌, ℕ, ◌<◌, ◌%◌, Bool, true, List, [], ◌∷◌, ◌++◌, take, Option, Some, None, refl, sym, ap, subst, ◌∙◌, append-nil, arith}
use Rattle.std.specs.Prelude.{map}
use Rattle.std.specs.declared.result.Result.TheVariants.{Ok, Err}
use Rattle.std.proofs.lemmas.Bool.{false≢true}
use Rattle.bb_outside.specs.declared.SourceFailed.{SourceFailed}
use Rattle.bb_outside.specs.declared.SinkFailed.{SinkFailed}
use Rattle.bb_outside.specs.Streams.{Takes, Ends, TakesSome, Puts}
use Rattle.rv_machine.specs.State.{State, gives, with_core, register_of}
use Rattle.bb_watch.specs.declared.event.Event.{Event}
use Rattle.rv_machine.specs.Environment.{World, gets, puts}
use Rattle.bb_watch.specs.Told.{Tell, Output, Happens, output_of}
use Rattle.rv_machine.specs.Runs.{Ran, Shown}

-- what is told, with nothing more
pub told_nil : (s : State) (left : List ℕ) (told : List Tell) → ◌≡◌ {A = World} (record { machine = s; left = left; told = told }) (record { machine = s; left = left; told = told ++ [] })
told_nil s left told = ap (λ (t : List Tell). record { machine = s; left = left; told = t }) (sym (append-nil told))

pub written_nil : (written : Option (List ℕ)) (bytes : List ℕ) → written ≡ Some bytes → written ≡ Some (bytes ++ [])
written_nil written bytes e = e ∙ ap Some (sym (append-nil bytes))

-- a run between states that are written in another way
pub ran_at : (f : World → World) (s t s' t' : State) (o o' : Shown) → s ≡ t → s' ≡ t' → Ran f s o s' o' → Ran f t o t' o'
ran_at f s t s' t' o o' e e' p = subst (λ (x : State). Ran f x o t' o') e (subst (λ (x : State). Ran f s o x o') e' p)

-- the same function where the run stands, written in another way
unfoldable pub ran_same : (f g : World → World) (s : State) (o : Shown) (s' : State) (o' : Shown) (p : Ran f s o s' o') → ((rest : List ℕ) (told : List Tell) → (o'.is_over ≡ true → rest ≡ []) → g (record { machine = s; left = p.taken ++ rest; told = told }) ≡ f (record { machine = s; left = p.taken ++ rest; told = told })) → Ran g s o s' o'
ran_same f g s o s' o' p h = record {
  taken = p.taken;
  tells = p.tells;
  does = λ rest told e. h rest told e ∙ p.does rest told e;
  input = p.input;
  over = p.over;
  output = p.output;
}

-- nothing but the machine changes
unfoldable pub ran_quiet : (f : World → World) (s s' : State) (o : Shown) → ((left : List ℕ) (told : List Tell) → f (record { machine = s; left = left; told = told }) ≡ record { machine = s'; left = left; told = told }) → Ran f s o s' o
ran_quiet f s s' o h = record {
  taken = [];
  tells = [];
  does = λ rest told e. h rest told ∙ told_nil s' rest told;
  input = λ bytes e. (bytes, refl, e);
  over = λ e. (refl, e);
  output = λ bytes e. written_nil o.written bytes e;
}

-- events are no output
events_quiet : (events : List Event) → output_of (map Happens events) ≡ []
events_quiet [] = refl
events_quiet (event ∷ events) = events_quiet events

-- the machine changes, and events are told
pub ran_events : (f : World → World) (s s' : State) (o : Shown) (events : List Event) → ((left : List ℕ) (told : List Tell) → f (record { machine = s; left = left; told = told }) ≡ record { machine = s'; left = left; told = told ++ map Happens events }) → Ran f s o s' o
ran_events f s s' o events h = record {
  taken = [];
  tells = map Happens events;
  does = λ rest told e. h rest told;
  input = λ bytes e. (bytes, refl, e);
  over = λ e. (refl, e);
  output = λ bytes e. written_nil o.written bytes e ∙ ap (λ (l : List ℕ). Some (bytes ++ l)) (sym (events_quiet events));
}

-- a byte was taken
pub ran_byte : (s : State) (b : ℕ) (left left' : Option (List ℕ)) (over over' : Bool) (written : Option (List ℕ)) → Takes {E = SourceFailed} left left' (Ok (Some b)) → Ends {E = SourceFailed} over over' (Ok (Some b)) → Ran gets s (record { left = left; is_over = over; written = written }) (with_core (gives 10 b s.core) s) (record { left = left'; is_over = over'; written = written })
ran_byte s b left left' over over' written t e = record {
  taken = b ∷ [];
  tells = [];
  does = λ rest told h. told_nil (with_core (gives 10 b s.core) s) rest told;
  input = λ bytes h. by bytes (subst (λ (l : Option (List ℕ)). Takes {E = SourceFailed} l left' (Ok (Some b))) h t);
  over = λ h. absurd (false≢true (sym e ∙ h));
  output = λ bytes h. written_nil written bytes h;
}
  where
    by : (bytes : List ℕ) → Takes {E = SourceFailed} (Some bytes) left' (Ok (Some b)) → (rest : List ℕ) × (bytes ≡ (b ∷ []) ++ rest) × (left' ≡ Some rest)
    by [] h = absurd h
    by (first ∷ rest) h = (rest, ap (λ (x : ℕ). x ∷ rest) (sym h.0), h.1)

-- no byte was left
pub ran_end : (s : State) (left left' : Option (List ℕ)) (over over' : Bool) (written : Option (List ℕ)) → Takes {E = SourceFailed} left left' (Ok None) → Ends {E = SourceFailed} over over' (Ok None) → Ran gets s (record { left = left; is_over = over; written = written }) (with_core (gives 10 4294967295 s.core) s) (record { left = left'; is_over = over'; written = written })
ran_end s left left' over over' written t e = record {
  taken = [];
  tells = [];
  does = λ rest told h. does rest told (h e);
  input = λ bytes h. by bytes (subst (λ (l : Option (List ℕ)). Takes {E = SourceFailed} l left' (Ok None)) h t);
  over = λ h. (refl, e);
  output = λ bytes h. written_nil written bytes h;
}
  where
    does : (rest : List ℕ) (told : List Tell) → rest ≡ [] → gets (record { machine = s; left = rest; told = told }) ≡ record { machine = with_core (gives 10 4294967295 s.core) s; left = rest; told = told ++ [] }
    does [] told h = told_nil (with_core (gives 10 4294967295 s.core) s) [] told
    does (x ∷ rest) told h = absurd (cc)

    by : (bytes : List ℕ) → Takes {E = SourceFailed} (Some bytes) left' (Ok None) → (rest : List ℕ) × (bytes ≡ [] ++ rest) × (left' ≡ Some rest)
    by [] h = ([], refl, h)
    by (first ∷ rest) h = absurd h

-- the source failed
pub ran_source_failed : (s : State) (e : SourceFailed) (left left' : Option (List ℕ)) (over over' : Bool) (written : Option (List ℕ)) → Takes left left' (Err e) → Ends over over' (Err e) → Ran (λ w. w) s (record { left = left; is_over = over; written = written }) s (record { left = left'; is_over = over'; written = written })
ran_source_failed s e left left' over over' written t h = record {
  taken = [];
  tells = [];
  does = λ rest told k. told_nil s rest told;
  input = λ bytes k. (bytes, refl, by bytes (subst (λ (l : Option (List ℕ)). Takes l left' (Err e)) k t));
  over = λ k. (refl, h k);
  output = λ bytes k. written_nil written bytes k;
}
  where
    by : (bytes : List ℕ) → Takes (Some bytes) left' (Err e) → left' ≡ Some bytes
    by [] k = k
    by (first ∷ rest) k = k

written_byte : (s : State) (count : ℕ) (left : Option (List ℕ)) (over : Bool) (written written' : Option (List ℕ)) → let byte = register_of s.core 10 % 256 in TakesSome {E = SinkFailed} (byte ∷ []) (Ok count) → Puts {E = SinkFailed} written written' (byte ∷ []) (Ok count) → Ran puts s (record { left = left; is_over = over; written = written }) (with_core (gives 10 byte s.core) s) (record { left = left; is_over = over; written = written' })
written_byte s count left over written written' t p = record {
  taken = [];
  tells = Output (register_of s.core 10 % 256) ∷ [];
  does = λ rest told h. refl;
  input = λ bytes h. (bytes, refl, h);
  over = λ h. (refl, h);
  output = λ bytes h. (subst (λ (o : Option (List ℕ)). Puts {E = SinkFailed} o written' (register_of s.core 10 % 256 ∷ []) (Ok count)) h p) ∙ ap (λ (n : ℕ). Some (bytes ++ take n (register_of s.core 10 % 256 ∷ []))) one;
}
  where
    one : count ≡ 1
    one = let h : 0 < count = t.1 (omega arith) in omega (arith, t.0)

-- the byte was written
pub ran_written : (s : State) (byte count : ℕ) (left : Option (List ℕ)) (over : Bool) (written written' : Option (List ℕ)) → register_of s.core 10 % 256 ≡ byte → TakesSome {E = SinkFailed} (byte ∷ []) (Ok count) → Puts {E = SinkFailed} written written' (byte ∷ []) (Ok count) → Ran puts s (record { left = left; is_over = over; written = written }) (with_core (gives 10 byte s.core) s) (record { left = left; is_over = over; written = written' })
ran_written s byte count left over written written' e t p =
    let P : ℕ → Type 0 = λ b. TakesSome {E = SinkFailed} (b ∷ []) (Ok count) → Puts {E = SinkFailed} written written' (b ∷ []) (Ok count) → Ran puts s (record { left = left; is_over = over; written = written }) (with_core (gives 10 b s.core) s) (record { left = left; is_over = over; written = written' }) in
    subst P e (written_byte s count left over written written') t p

-- the sink failed
pub ran_sink_failed : (s : State) (e : SinkFailed) (piece : List ℕ) (left : Option (List ℕ)) (over : Bool) (written written' : Option (List ℕ)) → Puts written written' piece (Err e) → Ran (λ w. w) s (record { left = left; is_over = over; written = written }) s (record { left = left; is_over = over; written = written' })
ran_sink_failed s e piece left over written written' p = record {
  taken = [];
  tells = [];
  does = λ rest told h. told_nil s rest told;
  input = λ bytes h. (bytes, refl, h);
  over = λ h. (refl, h);
  output = λ bytes h. (subst (λ (o : Option (List ℕ)). Puts o written' piece (Err e)) h p) ∙ ap Some (sym (append-nil bytes));
}
