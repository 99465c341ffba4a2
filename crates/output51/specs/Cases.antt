-- Nine worked cases.
use Rattle.std.specs.Prelude.{◌≡◌, ℕ, List, [], ◌∷◌, ◌++◌, replicate, Some, Ok, codes, Result}
use Rattle.arithmetic.specs.Flags.{as_bit}
use Rattle.arithmetic.specs.Bits.{bit_of}
use Rattle.boards.specs.Board.{Pins}
use Rattle.record_files.specs.Text.{line_feed}
use Rattle.execute51.specs.Execute.{execute_of}
use Rattle.execute51.specs.Cases.{coded, level, chip, looked, Calls, Ports}
use Rattle.cycles.specs.Laws.{Overflows, called_by}
use Rattle.step51.specs.Run.{Session, run_of}
use Rattle.output51.specs.Output.{output_of}

-- SJMP to 0010H, RETI at 0003H, and from 0010H on MOV IE,#81H, MOV IP,#01H, MUL AB, INC A and A5H
abbrev pub code_file : List ℕ
code_file = 0x80 ∷ 0x0e ∷ 0x00 ∷ 0x32 ∷ (replicate 12 0x00 ++ (0x75 ∷ 0xa8 ∷ 0x81 ∷ 0x75 ∷ 0xb8 ∷ 0x01 ∷ 0xa4 ∷ 0x04 ∷ 0xa5 ∷ []))

-- from cycle 1 on the level of port 3 is FBH
abbrev pub pin_file : List ℕ
pin_file = 0x00 ∷ 0x00 ∷ 0x00 ∷ 0x01 ∷ 0x03 ∷ 0xfb ∷ 0x00 ∷ 0x00 ∷ []

abbrev pub line : List ℕ → List ℕ
line text = text ++ (line_feed ∷ [])

-- what run51 writes of these two files
abbrev pub expected : List ℕ
expected =
    line (codes "0000008002000000")
    ++ (line (codes "0000107502000000")
    ++ (line (codes "0000137502000000")
    ++ (line (codes "000016A404000000")
    ++ (line (codes "0100170002010200")
    ++ (line (codes "0000033202000000")
    ++ (line (codes "0000170401000001")
    ++ (line (codes "0100180002010201")
    ++ (line (codes "0000033202000001")
    ++ line (codes "stop 12")))))))))

-- A, CY, AC and OV after ADD A,#n with n as given
abbrev pub added : ℕ → ℕ → Result (List ℕ) ℕ
added a n = looked (λ c. c.registers.a ∷ as_bit (bit_of c.registers.psw 7) ∷ as_bit (bit_of c.registers.psw 6) ∷ as_bit (bit_of c.registers.psw 2) ∷ [])
    (execute_of (level 255) (chip a 0x07 0 255) (coded 0 (0x24 ∷ n ∷ [])))

-- the worked cases; the last is of every board, by what a tick brings to it
pub record Worked {S : Type 0} (next : Pins S → Pins S) : Type 0 where
  pub output : output_of code_file pin_file ≡ expected
  -- 7FH and 01H: 80H, CY 0, AC 1, OV 1; FFH and 01H: 00H, CY 1, AC 1, OV 0
  pub add_overflow : added 0x7f 0x01 ≡ Ok (0x80 ∷ 0 ∷ 1 ∷ 1 ∷ [])
  pub add_carry : added 0xff 0x01 ≡ Ok (0x00 ∷ 1 ∷ 1 ∷ 0 ∷ [])
  -- LCALL at SP 7DH, 7EH and FFH
  pub calls : Calls
  -- modes 0 and 2 of both timers
  pub overflows : Overflows
  -- latch 0FH and level F0H: the port reads 00H
  pub ports : Ports
  -- IE0 at the low and TF1 at the high level, both sampled and enabled
  pub higher_level : called_by 0x82 0x89 0x08 ≡ Some 0x001b
  -- a run of 0 makes no step, answers 0 and changes nothing
  pub no_step : (s : Session S) → run_of next 0 s ≡ ((0, 0), s)
