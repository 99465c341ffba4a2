-- A program on which a high request waits 2k + 6 cycles, for k 0 and 1, cycle by cycle.
use Rattle.std.specs.Prelude.{ℕ, Bool, true, false, List, [], ◌∷◌, ◌++◌, replicate}
use Rattle.records.specs.declared.pins.PinRecord.{PinRecord}
use Rattle.records.specs.declared.ports.Port.TheVariants.{P3}
use Rattle.buses.specs.Buses.{split}
use Rattle.boards.specs.Script.{Playback, script_start, script_next}
use Rattle.step51.specs.World.{World, world}
use Rattle.step51.specs.Reset.{fresh_state}
use Rattle.history.specs.Events.{plain, control, call, Closing, Moment, cycle}
use Rattle.history.specs.Small.{Attained}
use Rattle.history51.specs.View.{among, held_of, enabled_of, level_by, serving_of}
use Rattle.history51.specs.Life.{parts}

-- MOV IE,#81H
abbrev pub enable : List ℕ
enable = 0x75 ∷ 0xa8 ∷ 0x81 ∷ []

-- MOV IE,#81H, MOV IP,#01H, NOP, then these instructions, then MUL AB
abbrev pub program : List ℕ → List ℕ
program more = enable ++ (0x75 ∷ 0xb8 ∷ 0x01 ∷ 0x00 ∷ (more ++ (0xa4 ∷ [])))

-- in cycle 5, the one of NOP, the pin of external interrupt 0 goes low
abbrev pub falling : PinRecord
falling = record { cycle = 5; port = P3; level = 0xfb }

-- a new core with this program and this board
abbrev pub start : List ℕ → World Playback
start more = world (fresh_state (replicate 128 0)) (split (program more) (0x00 ∷ [])) (script_start (falling ∷ []))

-- how a cycle closes, by TCON, IE, IP, the level of port 3 and the high mark
abbrev pub closing : (tcon ie ip level : ℕ) → Bool → Closing
closing tcon ie ip level high = record {
  held = among (held_of tcon 0x00 level);
  enabled = enabled_of ie;
  level = level_by ip;
  serving = serving_of (record { low = false; high = high });
}

-- with the request held, enabled and high; first with no service, then in the vector call
abbrev pub asking : Closing
asking = closing 0x02 0x81 0x01 0xfb false

abbrev pub serving : Closing
serving = closing 0x02 0x81 0x01 0xfb true

-- the two instructions before
abbrev pub before : List Moment
before =
    cycle control false (closing 0x00 0x81 0x00 0xff false) ∷ cycle control true (closing 0x00 0x81 0x00 0xff false)
    ∷ cycle control false (closing 0x00 0x81 0x01 0xff false) ∷ cycle control true (closing 0x00 0x81 0x01 0xff false) ∷ []

-- the wait: MUL AB, which polls in its last cycle, and the vector call
abbrev pub last_six : List Moment
last_six =
    cycle plain false asking ∷ cycle plain false asking ∷ cycle plain false asking ∷ cycle plain true asking
    ∷ cycle (call 1) false serving ∷ cycle (call 1) true serving ∷ []

-- with one MOV IE,#81H before it, which does not poll
abbrev pub eight : List Moment
eight = cycle control false asking ∷ cycle control true asking ∷ last_six

-- a wait of 6 cycles with k 0, and one of 8 with k 1, on this core with a script board
abbrev pub Attains : Type 0
Attains = Attained (parts script_next) 1 6 0 × Attained (parts script_next) 1 8 1
