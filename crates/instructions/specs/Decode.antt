-- Decoding by the sixteen rows of the opcode map.
use Rattle.std.specs.Prelude.{ℕ, ◌/◌, ◌%◌, cond, Some, None, Option, ◌==◌, nat_lt}
use Rattle.arithmetic.specs.Addresses.{word_of}
use Rattle.instructions.specs.declared.Operand.{Operand}
use Rattle.instructions.specs.declared.Operand.TheVariants.{Accumulator, Direct, Indirect, Register as OperandRegister}
use Rattle.instructions.specs.declared.Source.{Source}
use Rattle.instructions.specs.declared.Source.TheVariants.{Named, Immediate}
use Rattle.instructions.specs.declared.External.TheVariants.{Pointer, Register as ExternalRegister}
use Rattle.instructions.specs.declared.Arithmetic.TheVariants.{Add, Addc, Subb, Inc, Dec, IncDptr, Mul, Div, Da}
use Rattle.instructions.specs.declared.Logical.TheVariants.{Anl, Orl, Xrl, ClrA, CplA, Rl, Rlc, Rr, Rrc, Swap}
use Rattle.instructions.specs.declared.Transfer.TheVariants.{Mov, MovDptr, MovcDptr, MovcPc, MovxRead, MovxWrite, Push, Pop, Xch, Xchd}
use Rattle.instructions.specs.declared.Boolean.TheVariants.{ClrC, Clr, SetbC, Setb, CplC, Cpl, AnlC, AnlCNot, OrlC, OrlCNot, MovC, MovBit, Jc, Jnc, Jb, Jnb, Jbc}
use Rattle.instructions.specs.declared.Control.TheVariants.{Acall, Lcall, Ret, Reti, Ajmp, Ljmp, Sjmp, JmpDptr, Jz, Jnz, Cjne, Djnz, Nop}
use Rattle.instructions.specs.declared.Instruction.{Instruction}
use Rattle.instructions.specs.declared.Instruction.TheVariants.{Arithmetic, Logical, Transfer, Boolean, Control}

-- an operand by the low digit of the opcode: A, a direct byte, @R0 and @R1, R0 to R7
abbrev pub operand_of : ℕ → ℕ → Operand
operand_of low first =
    cond (low == 4) Accumulator
    (cond (low == 5) (Direct first)
    (cond (low / 2 == 3) (Indirect (low % 2)) (OperandRegister (low % 8))))

-- a source by the low digit: a constant in place of A
abbrev pub source_of : ℕ → ℕ → Source
source_of low first = cond (low == 4) (Immediate first) (Named (operand_of low first))

-- target and source of ORL, ANL and XRL, in columns 2 to F of their rows
abbrev pub logical_operands : ℕ → ℕ → ℕ → Operand × Source
logical_operands low first second =
    cond (low == 2) (Direct first, Named Accumulator)
    (cond (low == 3) (Direct first, Immediate second)
    (Accumulator, source_of low first))

-- an entry of a row: the columns 0 to 3, and one answer for the rest
abbrev pub columns : {A : Type 0} → ℕ → (e0 e1 e2 e3 rest : A) → A
columns low e0 e1 e2 e3 rest =
    cond (low == 0) e0 (cond (low == 1) e1 (cond (low == 2) e2 (cond (low == 3) e3 rest)))

abbrev pub row_0 : ℕ → ℕ → ℕ → Instruction
row_0 low first second = columns low
    (Control Nop)
    (Control (Ajmp (word_of 0 first)))
    (Control (Ljmp (word_of first second)))
    (Logical Rr)
    (Arithmetic (Inc (operand_of low first)))

abbrev pub row_1 : ℕ → ℕ → ℕ → Instruction
row_1 low first second = columns low
    (Boolean (Jbc first second))
    (Control (Acall (word_of 0 first)))
    (Control (Lcall (word_of first second)))
    (Logical Rrc)
    (Arithmetic (Dec (operand_of low first)))

abbrev pub row_2 : ℕ → ℕ → ℕ → Instruction
row_2 low first second = columns low
    (Boolean (Jb first second))
    (Control (Ajmp (word_of 1 first)))
    (Control Ret)
    (Logical Rl)
    (Arithmetic (Add (source_of low first)))

abbrev pub row_3 : ℕ → ℕ → ℕ → Instruction
row_3 low first second = columns low
    (Boolean (Jnb first second))
    (Control (Acall (word_of 1 first)))
    (Control Reti)
    (Logical Rlc)
    (Arithmetic (Addc (source_of low first)))

abbrev pub row_4 : ℕ → ℕ → ℕ → Instruction
row_4 low first second = columns low
    (Boolean (Jc first))
    (Control (Ajmp (word_of 2 first)))
    (Logical (Orl (Direct first) (Named Accumulator)))
    (Logical (Orl (Direct first) (Immediate second)))
    (Logical (Orl Accumulator (source_of low first)))

abbrev pub row_5 : ℕ → ℕ → ℕ → Instruction
row_5 low first second = columns low
    (Boolean (Jnc first))
    (Control (Acall (word_of 2 first)))
    (Logical (Anl (Direct first) (Named Accumulator)))
    (Logical (Anl (Direct first) (Immediate second)))
    (Logical (Anl Accumulator (source_of low first)))

abbrev pub row_6 : ℕ → ℕ → ℕ → Instruction
row_6 low first second = columns low
    (Control (Jz first))
    (Control (Ajmp (word_of 3 first)))
    (Logical (Xrl (Direct first) (Named Accumulator)))
    (Logical (Xrl (Direct first) (Immediate second)))
    (Logical (Xrl Accumulator (source_of low first)))

abbrev pub row_7 : ℕ → ℕ → ℕ → Instruction
row_7 low first second = columns low
    (Control (Jnz first))
    (Control (Acall (word_of 3 first)))
    (Boolean (OrlC first))
    (Control JmpDptr)
    (cond (low == 5) (Transfer (Mov (Direct first) (Immediate second))) (Transfer (Mov (operand_of low first) (Immediate first))))

abbrev pub row_8 : ℕ → ℕ → ℕ → Instruction
row_8 low first second = columns low
    (Control (Sjmp first))
    (Control (Ajmp (word_of 4 first)))
    (Boolean (AnlC first))
    (Transfer MovcPc)
    (cond (low == 4) (Arithmetic Div) (cond (low == 5) (Transfer (Mov (Direct second) (Named (Direct first)))) (Transfer (Mov (Direct first) (Named (operand_of low first))))))

abbrev pub row_9 : ℕ → ℕ → ℕ → Instruction
row_9 low first second = columns low
    (Transfer (MovDptr (word_of first second)))
    (Control (Acall (word_of 4 first)))
    (Boolean (MovBit first))
    (Transfer MovcDptr)
    (Arithmetic (Subb (source_of low first)))

abbrev pub row_a : ℕ → ℕ → Option Instruction
row_a low first = columns low
    (Some (Boolean (OrlCNot first)))
    (Some (Control (Ajmp (word_of 5 first))))
    (Some (Boolean (MovC first)))
    (Some (Arithmetic IncDptr))
    (cond (low == 4) (Some (Arithmetic Mul)) (cond (low == 5) None (Some (Transfer (Mov (operand_of low first) (Named (Direct first)))))))

abbrev pub row_b : ℕ → ℕ → ℕ → Instruction
row_b low first second = columns low
    (Boolean (AnlCNot first))
    (Control (Acall (word_of 5 first)))
    (Boolean (Cpl first))
    (Boolean CplC)
    (cond (low == 4) (Control (Cjne Accumulator (Immediate first) second)) (cond (low == 5) (Control (Cjne Accumulator (Named (Direct first)) second)) (Control (Cjne (operand_of low first) (Immediate first) second))))

abbrev pub row_c : ℕ → ℕ → Instruction
row_c low first = columns low
    (Transfer (Push first))
    (Control (Ajmp (word_of 6 first)))
    (Boolean (Clr first))
    (Boolean ClrC)
    (cond (low == 4) (Logical Swap) (Transfer (Xch (operand_of low first))))

abbrev pub row_d : ℕ → ℕ → ℕ → Instruction
row_d low first second = columns low
    (Transfer (Pop first))
    (Control (Acall (word_of 6 first)))
    (Boolean (Setb first))
    (Boolean SetbC)
    (cond (low == 4) (Arithmetic Da) (cond (low == 5) (Control (Djnz (Direct first) second)) (cond (nat_lt low 8) (Transfer (Xchd (low % 2))) (Control (Djnz (OperandRegister (low % 8)) first)))))

abbrev pub row_e : ℕ → ℕ → Instruction
row_e low first = columns low
    (Transfer (MovxRead Pointer))
    (Control (Ajmp (word_of 7 first)))
    (Transfer (MovxRead (ExternalRegister (low % 2))))
    (Transfer (MovxRead (ExternalRegister (low % 2))))
    (cond (low == 4) (Logical ClrA) (Transfer (Mov Accumulator (Named (operand_of low first)))))

abbrev pub row_f : ℕ → ℕ → Instruction
row_f low first = columns low
    (Transfer (MovxWrite Pointer))
    (Control (Acall (word_of 7 first)))
    (Transfer (MovxWrite (ExternalRegister (low % 2))))
    (Transfer (MovxWrite (ExternalRegister (low % 2))))
    (cond (low == 4) (Logical CplA) (Transfer (Mov (operand_of low first) (Named Accumulator))))

-- the opcode map: only A5H has no instruction, and nothing from 256 on
abbrev pub decode_steps : ℕ → ℕ → ℕ → Option Instruction
decode_steps opcode first second =
    cond (opcode / 16 == 0) (Some (row_0 (opcode % 16) first second))
    (cond (opcode / 16 == 1) (Some (row_1 (opcode % 16) first second))
    (cond (opcode / 16 == 2) (Some (row_2 (opcode % 16) first second))
    (cond (opcode / 16 == 3) (Some (row_3 (opcode % 16) first second))
    (cond (opcode / 16 == 4) (Some (row_4 (opcode % 16) first second))
    (cond (opcode / 16 == 5) (Some (row_5 (opcode % 16) first second))
    (cond (opcode / 16 == 6) (Some (row_6 (opcode % 16) first second))
    (cond (opcode / 16 == 7) (Some (row_7 (opcode % 16) first second))
    (cond (opcode / 16 == 8) (Some (row_8 (opcode % 16) first second))
    (cond (opcode / 16 == 9) (Some (row_9 (opcode % 16) first second))
    (cond (opcode / 16 == 10) (row_a (opcode % 16) first)
    (cond (opcode / 16 == 11) (Some (row_b (opcode % 16) first second))
    (cond (opcode / 16 == 12) (Some (row_c (opcode % 16) first))
    (cond (opcode / 16 == 13) (Some (row_d (opcode % 16) first second))
    (cond (opcode / 16 == 14) (Some (row_e (opcode % 16) first))
    (cond (opcode / 16 == 15) (Some (row_f (opcode % 16) first))
    None)))))))))))))))

unfoldable pub decode_of : ℕ → ℕ → ℕ → Option Instruction
decode_of opcode first second = decode_steps opcode first second
