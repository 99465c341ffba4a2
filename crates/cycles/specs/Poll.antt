-- The poll: which request is accepted.
use Rattle.std.specs.Prelude.{ℕ, Bool, cond, ◌||◌, Some, None, Option}
use Rattle.records.specs.declared.traces.Source.{Source}
use Rattle.records.specs.declared.traces.Source.TheVariants.{External0, Timer0, External1, Timer1, Serial}
use Rattle.records.specs.declared.traces.Marks.{Marks}
use Rattle.arithmetic.specs.Bits.{bit_of}
use Rattle.cycles.specs.declared.sample.Sample.{Sample}
use Rattle.cycles.specs.declared.poll.Level.{Level}
use Rattle.cycles.specs.declared.poll.Level.TheVariants.{Low, High}
use Rattle.cycles.specs.declared.poll.Request.{Request}
use Rattle.cycles.specs.Sample.{masked_of}

-- the source with the lowest number
abbrev pub first_of : Sample → Option Source
first_of s =
    cond s.external0 (Some External0)
    (cond s.timer0 (Some Timer0)
    (cond s.external1 (Some External1)
    (cond s.timer1 (Some Timer1)
    (cond s.serial (Some Serial)
    None))))

abbrev pub request : Source → Level → Request
request s l = record { source = s; level = l }

-- a request at the high level goes before each at the low level
abbrev pub higher : Option Source → Option Source → Option Request
higher (Some s) any = Some (request s High)
higher None (Some s) = Some (request s Low)
higher None None = None

-- of the requests that ask, the highest level, then the lowest source number; IP gives the levels
abbrev pub taken_of : Sample → ℕ → Option Request
taken_of asking ip = higher (first_of (masked_of asking ip)) (first_of asking)

-- a service of this level or a higher one is in progress
abbrev pub barred_of : Level → Marks → Bool
barred_of Low m = m.low || m.high
barred_of High m = m.high

-- the request taken is accepted unless it is barred
abbrev pub unless_barred : Marks → Option Request → Option Request
unless_barred m None = None
unless_barred m (Some r) = cond (barred_of r.level m) None (Some r)

-- the accepted request, by the sample, IE, IP and the marks; bit 7 of IE enables the others
abbrev pub poll_of : Sample → ℕ → ℕ → Marks → Option Request
poll_of s ie ip m = cond (bit_of ie 7) (unless_barred m (taken_of (masked_of s ie) ip)) None
