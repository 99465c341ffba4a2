-- The rule of the poll, for sources 1 to n and any number of levels.
use Rattle.std.specs.Prelude.{ℕ, zero, suc, Bool, true, false, cond, Some, None, Option, nat_lt}
use Rattle.history.specs.Events.{Closing}

-- The source s takes the place of the one taken before if its level is higher.
abbrev pub over : (ℕ → ℕ) → ℕ → Option ℕ → Option ℕ
over level s None = Some s
over level s (Some t) = cond (nat_lt (level t) (level s)) (Some s) (Some t)

-- Of the sources 1 to n that ask, the one at the highest level, and of several such the one with the lowest number.
abbrev pub taken : (ℕ → Bool) → (ℕ → ℕ) → ℕ → Option ℕ
taken asks level zero = None
taken asks level (suc n) = let r = taken asks level n in cond (asks (suc n)) (over level (suc n) r) r

-- Whether a service of level i or a higher one is in progress, of the levels below n.
abbrev pub barred : (ℕ → Bool) → ℕ → ℕ → Bool
barred serving zero i = false
barred serving (suc n) i = cond (nat_lt n i) false (cond (serving n) true (barred serving n i))

-- The request taken is accepted unless a service of its level or a higher one is in progress.
abbrev pub unless_barred : (ℕ → ℕ) → (ℕ → Bool) → ℕ → Option ℕ → Option ℕ
unless_barred level serving levels None = None
unless_barred level serving levels (Some s) = cond (barred serving levels (level s)) None (Some s)

-- The source that a poll accepts, with so many sources and levels, by the sample and what is enabled, at which level, and in service.
abbrev pub poll_of : ℕ → ℕ → (ℕ → Bool) → Closing → Option ℕ
poll_of sources levels sampled c =
    unless_barred c.level c.serving levels (taken (λ s. cond (sampled s) (c.enabled s) false) c.level sources)

-- The level of a source, if there is one.
abbrev pub level_of : (ℕ → ℕ) → Option ℕ → Option ℕ
level_of level None = None
level_of level (Some s) = Some (level s)
