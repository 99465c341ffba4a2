-- How many bytes an instruction takes: the opcode, and what its operands need.
use Rattle.std.specs.Prelude.{ℕ, ◌+◌}
use Rattle.instructions.specs.declared.Operand.{Operand}
use Rattle.instructions.specs.declared.Operand.TheVariants.{Accumulator, Register, Direct, Indirect, Bit}
use Rattle.instructions.specs.declared.Source.{Source}
use Rattle.instructions.specs.declared.Source.TheVariants.{Named, Immediate}
use Rattle.instructions.specs.declared.Arithmetic.{Arithmetic as ArithmeticGroup}
use Rattle.instructions.specs.declared.Arithmetic.TheVariants.{Add, Addc, Subb, Inc, Dec, IncDptr, Mul, Div, Da}
use Rattle.instructions.specs.declared.Logical.{Logical as LogicalGroup}
use Rattle.instructions.specs.declared.Logical.TheVariants.{Anl, Orl, Xrl, ClrA, CplA, Rl, Rlc, Rr, Rrc, Swap}
use Rattle.instructions.specs.declared.Transfer.{Transfer as TransferGroup}
use Rattle.instructions.specs.declared.Transfer.TheVariants.{Mov, MovDptr, MovcDptr, MovcPc, MovxRead, MovxWrite, Push, Pop, Xch, Xchd}
use Rattle.instructions.specs.declared.Boolean.{Boolean as BooleanGroup}
use Rattle.instructions.specs.declared.Boolean.TheVariants.{ClrC, Clr, SetbC, Setb, CplC, Cpl, AnlC, AnlCNot, OrlC, OrlCNot, MovC, MovBit, Jc, Jnc, Jb, Jnb, Jbc}
use Rattle.instructions.specs.declared.Control.{Control as ControlGroup}
use Rattle.instructions.specs.declared.Control.TheVariants.{Acall, Lcall, Ret, Reti, Ajmp, Ljmp, Sjmp, JmpDptr, Jz, Jnz, Cjne, Djnz, Nop}
use Rattle.instructions.specs.declared.Instruction.{Instruction}
use Rattle.instructions.specs.declared.Instruction.TheVariants.{Arithmetic, Logical, Transfer, Boolean, Control}

-- a direct address and a bit's address take a byte; A, R0 to R7, @R0 and @R1 are told by the opcode
abbrev pub operand_size : Operand → ℕ
operand_size Accumulator = 0
operand_size (Register n) = 0
operand_size (Direct a) = 1
operand_size (Indirect n) = 0
operand_size (Bit b) = 1

abbrev pub source_size : Source → ℕ
source_size (Named o) = operand_size o
source_size (Immediate n) = 1

abbrev pub arithmetic_size : ArithmeticGroup → ℕ
arithmetic_size (Add s) = 1 + source_size s
arithmetic_size (Addc s) = 1 + source_size s
arithmetic_size (Subb s) = 1 + source_size s
arithmetic_size (Inc t) = 1 + operand_size t
arithmetic_size (Dec t) = 1 + operand_size t
arithmetic_size IncDptr = 1
arithmetic_size Mul = 1
arithmetic_size Div = 1
arithmetic_size Da = 1

abbrev pub logical_size : LogicalGroup → ℕ
logical_size (Anl t s) = 1 + operand_size t + source_size s
logical_size (Orl t s) = 1 + operand_size t + source_size s
logical_size (Xrl t s) = 1 + operand_size t + source_size s
logical_size ClrA = 1
logical_size CplA = 1
logical_size Rl = 1
logical_size Rlc = 1
logical_size Rr = 1
logical_size Rrc = 1
logical_size Swap = 1

abbrev pub transfer_size : TransferGroup → ℕ
transfer_size (Mov t s) = 1 + operand_size t + source_size s
transfer_size (MovDptr n) = 3
transfer_size MovcDptr = 1
transfer_size MovcPc = 1
transfer_size (MovxRead e) = 1
transfer_size (MovxWrite e) = 1
transfer_size (Push a) = 2
transfer_size (Pop a) = 2
transfer_size (Xch t) = 1 + operand_size t
transfer_size (Xchd n) = 1

abbrev pub boolean_size : BooleanGroup → ℕ
boolean_size ClrC = 1
boolean_size (Clr b) = 2
boolean_size SetbC = 1
boolean_size (Setb b) = 2
boolean_size CplC = 1
boolean_size (Cpl b) = 2
boolean_size (AnlC b) = 2
boolean_size (AnlCNot b) = 2
boolean_size (OrlC b) = 2
boolean_size (OrlCNot b) = 2
boolean_size (MovC b) = 2
boolean_size (MovBit b) = 2
boolean_size (Jc r) = 2
boolean_size (Jnc r) = 2
boolean_size (Jb b r) = 3
boolean_size (Jnb b r) = 3
boolean_size (Jbc b r) = 3

abbrev pub control_size : ControlGroup → ℕ
control_size (Acall n) = 2
control_size (Lcall n) = 3
control_size Ret = 1
control_size Reti = 1
control_size (Ajmp n) = 2
control_size (Ljmp n) = 3
control_size (Sjmp r) = 2
control_size JmpDptr = 1
control_size (Jz r) = 2
control_size (Jnz r) = 2
control_size (Cjne l s r) = 2 + operand_size l + source_size s
control_size (Djnz t r) = 2 + operand_size t
control_size Nop = 1

abbrev pub size_of : Instruction → ℕ
size_of (Arithmetic i) = arithmetic_size i
size_of (Logical i) = logical_size i
size_of (Transfer i) = transfer_size i
size_of (Boolean i) = boolean_size i
size_of (Control i) = control_size i
