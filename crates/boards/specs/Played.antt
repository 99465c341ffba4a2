-- What a script board means.
use Rattle.std.specs.Prelude.{Ok, Err, Result}
use Rattle.records.specs.declared.refusals.Refusal.{Refusal}
use Rattle.boards.specs.declared.playback.Script.{Script}
use Rattle.boards.specs.Board.{Pins}
use Rattle.boards.specs.Script.{Playback, played}

-- its levels follow from its records and the ticks that have passed
abbrev pub played_by : Script → Pins Playback
played_by s = played s.records.now s.ticks s.pins.driven

-- what a builder answers, by the meaning of its board
abbrev pub built : Result Script Refusal → Result (Pins Playback) Refusal
built (Ok board) = Ok (played_by board)
built (Err e) = Err e
