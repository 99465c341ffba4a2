-- What is promised of a whole history: how long a request waits, what stands between two vector calls, and what MOVX reads.
use Rattle.std.specs.Prelude.{◌≡◌, ℕ, suc, ◌+◌, ◌*◌, ◌≤◌, max, Bool, true, false, cond, not, ◌≢◌, List, [], ◌∷◌, ◌++◌, length, Some, Option, ◌==◌}
use Rattle.history.specs.Events.{Kind, plain, control, reti, call, polls, Closing, Access, no_access, read, write, Step, Event, reset, step, Moment, restart, cycle, moments}

-- (a) The wait of a request --------------------------------------------------------------------------------------------------

-- At this cycle's end the request of source s is held, enabled and at level ℓ.
abbrev pub Asks : ℕ → ℕ → Closing → Type 0
Asks ℓ s c = (c.held s ≡ true) × (c.enabled s ≡ true) × (c.level s ≡ ℓ)

-- All moments since a wait began: the wait of the request of source s for a vector call at level ℓ.
-- It goes on with each cycle of another step that closes with the request held, enabled and at its level; a reset breaks it off, and so
-- does any other such cycle. Once the vector call has begun, its cycles belong to the wait however they close, and the wait is over
-- with the last of them.
pub data Waiting (ℓ s : ℕ) : List Moment → Type 0 where
  begun : Waiting ℓ s []
  goes_on : {k : Kind} {l : Bool} {c : Closing} {ms : List Moment} → k ≢ call ℓ → Asks ℓ s c → Waiting ℓ s ms → Waiting ℓ s (cycle k l c ∷ ms)
  in_call : {c : Closing} {ms : List Moment} → Waiting ℓ s ms → Waiting ℓ s (cycle (call ℓ) false c ∷ ms)
  over : {c : Closing} → Waiting ℓ s (cycle (call ℓ) true c ∷ [])

-- Whether a cycle of a step of kind k, its last one if l, is the last one of an instruction that does not poll.
abbrev pub ends_unpolled : Kind → Bool → Bool
ends_unpolled k l = cond l (not (polls k)) false

-- How many instructions that do not poll have their last cycle among these moments.
abbrev pub unpolled : List Moment → ℕ
unpolled [] = 0
unpolled (restart ∷ ms) = unpolled ms
unpolled (cycle k l c ∷ ms) = let n = unpolled ms in cond (ends_unpolled k l) (suc n) n

-- The longest wait in which k such instructions end, where no instruction has more than M cycles and none that does not poll has more
-- than m: m cycles for each of the k, M for the instruction that polls (or 2, if it is a vector call at another level), 2 for the call.
abbrev pub limit : ℕ → ℕ → ℕ → ℕ
limit M m k = m * k + (2 + max M 2)

-- However a history is cut into what was before, a cycle with whose end a wait begins, what the wait has gone on through and what
-- comes after: the cycles that it has gone on through are at most as many as the longest wait has.
-- A wait begins with any cycle that closes with the request held, enabled and at level ℓ and no service of that level in progress.
abbrev pub Prompt : ℕ → (ℕ → ℕ) → List Event → Type 0
Prompt ℓ longest h =
    (s : ℕ) (k : Kind) (l : Bool) (c : Closing) (before during after : List Moment) →
    moments h ≡ before ++ (cycle k l c ∷ (during ++ after)) →
    Asks ℓ s c → c.serving ℓ ≡ false →
    Waiting ℓ s during → length during ≤ longest (unpolled during)

-- (b) Between two vector calls -----------------------------------------------------------------------------------------------

-- Whether a step is an instruction.
abbrev pub is_instruction : Kind → Bool
is_instruction plain = true
is_instruction control = true
is_instruction reti = true
is_instruction (call ℓ) = false

-- An instruction stands among these events.
pub data HasInstruction : List Event → Type 0 where
  here : {x : Step} {es : List Event} → is_instruction x.kind ≡ true → HasInstruction (step x ∷ es)
  there : {e : Event} {es : List Event} → HasInstruction es → HasInstruction (e ∷ es)

-- A reset stands among these events, or a RETI and after it a further instruction.
pub data Parted : List Event → Type 0 where
  by_reset : {es : List Event} → Parted (reset ∷ es)
  by_reti : {x : Step} {es : List Event} → x.kind ≡ reti → HasInstruction es → Parted (step x ∷ es)
  later : {e : Event} {es : List Event} → Parted es → Parted (e ∷ es)

-- Any two vector calls at one level are parted so by what stands between them.
abbrev pub Apart : List Event → Type 0
Apart h =
    (ℓ : ℕ) (x y : Step) (before between after : List Event) →
    h ≡ before ++ (step x ∷ (between ++ (step y ∷ after))) →
    x.kind ≡ call ℓ → y.kind ≡ call ℓ → Parted between

-- (c) What MOVX reads ---------------------------------------------------------------------------------------------------------

-- The byte at the address a after an access, if it was b before.
abbrev pub byte_after : ℕ → Option ℕ → Access → Option ℕ
byte_after a b no_access = b
byte_after a b (read x y) = b
byte_after a b (write x y) = cond (x == a) (Some y) b

-- The last byte that a MOVX wrote to the address a in this history, or b if none did.
abbrev pub last_written : ℕ → Option ℕ → List Event → Option ℕ
last_written a b [] = b
last_written a b (reset ∷ h) = last_written a b h
last_written a b (step x ∷ h) = last_written a (byte_after a b x.access) h

-- Each byte that a MOVX has read is the last one that a MOVX wrote to that address before, or the first byte there if none had.
abbrev pub Remembers : (ℕ → Option ℕ) → List Event → Type 0
Remembers first h =
    (a b : ℕ) (x : Step) (before after : List Event) →
    h ≡ before ++ (step x ∷ after) →
    x.access ≡ read a b → last_written a (first a) before ≡ Some b

-- The three together, of a history that began with these data bytes: ℓ is the highest level, and a wait at it in which k instructions
-- that do not poll end is at most `longest k` cycles long.
pub record Promise (ℓ : ℕ) (longest : ℕ → ℕ) (first : ℕ → Option ℕ) (h : List Event) : Type 0 where
  pub prompt : Prompt ℓ longest h
  pub apart : Apart h
  pub remembers : Remembers first h
