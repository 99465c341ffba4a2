-- What an instruction names, and so whether a poll follows it.
use Rattle.std.specs.Prelude.{◌/◌, Bool, true, false, not, ◌&&◌, ◌||◌, Some, None, Option, ◌==◌}
use Rattle.instructions.specs.declared.operands.Operands.{Operands}
use Rattle.instructions.specs.declared.Operand.{Operand}
use Rattle.instructions.specs.declared.Operand.TheVariants.{Accumulator, Register, Direct, Indirect, Bit}
use Rattle.instructions.specs.declared.Source.{Source}
use Rattle.instructions.specs.declared.Source.TheVariants.{Named, Immediate}
use Rattle.instructions.specs.declared.Arithmetic.{Arithmetic as ArithmeticGroup}
use Rattle.instructions.specs.declared.Arithmetic.TheVariants.{Add, Addc, Subb, Inc, Dec, IncDptr, Mul, Div, Da}
use Rattle.instructions.specs.declared.Logical.{Logical as LogicalGroup}
use Rattle.instructions.specs.declared.Logical.TheVariants.{Anl, Orl, Xrl, ClrA, CplA, Rl, Rlc, Rr, Rrc, Swap}
use Rattle.instructions.specs.declared.Transfer.{Transfer as TransferGroup}
use Rattle.instructions.specs.declared.Transfer.TheVariants.{Mov, MovDptr, MovcDptr, MovcPc, MovxRead, MovxWrite, Push, Pop, Xch, Xchd}
use Rattle.instructions.specs.declared.Boolean.{Boolean as BooleanGroup}
use Rattle.instructions.specs.declared.Boolean.TheVariants.{ClrC, Clr, SetbC, Setb, CplC, Cpl, AnlC, AnlCNot, OrlC, OrlCNot, MovC, MovBit, Jc, Jnc, Jb, Jnb, Jbc}
use Rattle.instructions.specs.declared.Control.{Control as ControlGroup}
use Rattle.instructions.specs.declared.Control.TheVariants.{Acall, Lcall, Ret, Reti, Ajmp, Ljmp, Sjmp, JmpDptr, Jz, Jnz, Cjne, Djnz, Nop}
use Rattle.instructions.specs.declared.Instruction.{Instruction}
use Rattle.instructions.specs.declared.Instruction.TheVariants.{Arithmetic, Logical, Transfer, Boolean, Control}

-- a constant names no byte
abbrev pub named_of : Source → Option Operand
named_of (Named operand) = Some operand
named_of (Immediate n) = None

-- it names nothing; it only reads a byte; it writes a byte; it writes one and may read another
abbrev pub nothing : Operands Operand
nothing = record { target = None; source = None }

abbrev pub reads : Operand → Operands Operand
reads operand = record { target = None; source = Some operand }

abbrev pub writes : Operand → Operands Operand
writes operand = record { target = Some operand; source = None }

abbrev pub moves : Operand → Source → Operands Operand
moves target source = record { target = Some target; source = named_of source }

abbrev pub takes : Source → Operands Operand
takes source = record { target = None; source = named_of source }

abbrev pub of_arithmetic : ArithmeticGroup → Operands Operand
of_arithmetic (Add s) = takes s
of_arithmetic (Addc s) = takes s
of_arithmetic (Subb s) = takes s
of_arithmetic (Inc t) = writes t
of_arithmetic (Dec t) = writes t
of_arithmetic IncDptr = nothing
of_arithmetic Mul = nothing
of_arithmetic Div = nothing
of_arithmetic Da = nothing

abbrev pub of_logical : LogicalGroup → Operands Operand
of_logical (Anl t s) = moves t s
of_logical (Orl t s) = moves t s
of_logical (Xrl t s) = moves t s
of_logical ClrA = nothing
of_logical CplA = nothing
of_logical Rl = nothing
of_logical Rlc = nothing
of_logical Rr = nothing
of_logical Rrc = nothing
of_logical Swap = nothing

abbrev pub of_transfer : TransferGroup → Operands Operand
of_transfer (Mov t s) = moves t s
of_transfer (MovDptr n) = nothing
of_transfer MovcDptr = nothing
of_transfer MovcPc = nothing
of_transfer (MovxRead e) = nothing
of_transfer (MovxWrite e) = nothing
of_transfer (Push a) = reads (Direct a)
of_transfer (Pop a) = writes (Direct a)
of_transfer (Xch t) = writes t
of_transfer (Xchd i) = writes (Indirect i)

abbrev pub of_boolean : BooleanGroup → Operands Operand
of_boolean ClrC = nothing
of_boolean (Clr b) = writes (Bit b)
of_boolean SetbC = nothing
of_boolean (Setb b) = writes (Bit b)
of_boolean CplC = nothing
of_boolean (Cpl b) = writes (Bit b)
of_boolean (AnlC b) = reads (Bit b)
of_boolean (AnlCNot b) = reads (Bit b)
of_boolean (OrlC b) = reads (Bit b)
of_boolean (OrlCNot b) = reads (Bit b)
of_boolean (MovC b) = reads (Bit b)
of_boolean (MovBit b) = writes (Bit b)
of_boolean (Jc r) = nothing
of_boolean (Jnc r) = nothing
of_boolean (Jb b r) = reads (Bit b)
of_boolean (Jnb b r) = reads (Bit b)
of_boolean (Jbc b r) = writes (Bit b)

abbrev pub of_control : ControlGroup → Operands Operand
of_control (Acall n) = nothing
of_control (Lcall n) = nothing
of_control Ret = nothing
of_control Reti = nothing
of_control (Ajmp n) = nothing
of_control (Ljmp n) = nothing
of_control (Sjmp r) = nothing
of_control JmpDptr = nothing
of_control (Jz r) = nothing
of_control (Jnz r) = nothing
of_control (Cjne l (Named o) r) = reads o
of_control (Cjne l (Immediate n) r) = reads l
of_control (Djnz t r) = writes t
of_control Nop = nothing

abbrev pub operands_of : Instruction → Operands Operand
operands_of (Arithmetic i) = of_arithmetic i
operands_of (Logical i) = of_logical i
operands_of (Transfer i) = of_transfer i
operands_of (Boolean i) = of_boolean i
operands_of (Control i) = of_control i

-- IE stands at A8H with its bits A8H to AFH, IP at B8H with its bits B8H to BFH
abbrev pub is_ie_or_ip : Option Operand → Bool
is_ie_or_ip None = false
is_ie_or_ip (Some Accumulator) = false
is_ie_or_ip (Some (Register n)) = false
is_ie_or_ip (Some (Direct a)) = a == 0xa8 || a == 0xb8
is_ie_or_ip (Some (Indirect n)) = false
is_ie_or_ip (Some (Bit b)) = b / 8 == 21 || b / 8 == 23

abbrev pub has_ie_or_ip : Operands Operand → Bool
has_ie_or_ip o = is_ie_or_ip o.target || is_ie_or_ip o.source

abbrev pub is_reti_control : ControlGroup → Bool
is_reti_control (Acall n) = false
is_reti_control (Lcall n) = false
is_reti_control Ret = false
is_reti_control Reti = true
is_reti_control (Ajmp n) = false
is_reti_control (Ljmp n) = false
is_reti_control (Sjmp r) = false
is_reti_control JmpDptr = false
is_reti_control (Jz r) = false
is_reti_control (Jnz r) = false
is_reti_control (Cjne l s r) = false
is_reti_control (Djnz t r) = false
is_reti_control Nop = false

abbrev pub is_reti_of : Instruction → Bool
is_reti_of (Arithmetic i) = false
is_reti_of (Logical i) = false
is_reti_of (Transfer i) = false
is_reti_of (Boolean i) = false
is_reti_of (Control i) = is_reti_control i

-- a poll follows, but for RETI and what has IE or IP as an operand
abbrev pub polls_of : Instruction → Bool
polls_of i = not (is_reti_of i) && not (has_ie_or_ip (operands_of i))
