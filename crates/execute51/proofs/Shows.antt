-- Every accepted instruction shows what specs/Laws.antt says.
use Rattle.std.proofs.Common.{◌≡◌, ℕ, ◌+◌, ◌*◌, ◌/◌, ◌<◌, ◌≤◌, Bool, true, false, cond, not, ◌&&◌, ◌||◌, eqb, ltb, ◌≢◌, List, is_some, Some, None, Ok, Err, Option, Result, sym, refl, ap, ◌∙◌, subst, inl, inr, arith}
use Rattle.std.proofs.lemmas.Bool.Decides.{nat_tests}
use Rattle.std.proofs.lemmas.Bool.{cases_lt, cases_eq, eq-eqb, ne_eqb, cond_both, agree_below_at}
use Rattle.outcome.specs.Outcome.{kept, then}
use Rattle.records.specs.declared.ports.Port.{Port}
use Rattle.boards.specs.Board.{Pins}
use Rattle.buses.specs.declared.bus.BusFault.{BusFault}
use Rattle.buses.specs.Memory.{Memory, answer, accepts, put, written}
use Rattle.instructions.specs.declared.Operand.{Operand}
use Rattle.instructions.specs.declared.Operand.TheVariants.{Accumulator, Register, Direct, Indirect, Bit}
use Rattle.instructions.specs.declared.operands.Operands.{Operands}
use Rattle.instructions.specs.declared.Source.TheVariants.{Named, Immediate}
use Rattle.instructions.specs.declared.Arithmetic.{Arithmetic as ArithmeticGroup}
use Rattle.instructions.specs.declared.Arithmetic.TheVariants.{Add, Addc, Subb, Inc, Dec, IncDptr, Mul, Div, Da}
use Rattle.instructions.specs.declared.Logical.{Logical as LogicalGroup}
use Rattle.instructions.specs.declared.Logical.TheVariants.{Anl, Orl, Xrl, ClrA, CplA, Rl, Rlc, Rr, Rrc, Swap}
use Rattle.instructions.specs.declared.Boolean.{Boolean as BooleanGroup}
use Rattle.instructions.specs.declared.Boolean.TheVariants.{ClrC, Clr, SetbC, Setb, CplC, Cpl, AnlC, AnlCNot, OrlC, OrlCNot, MovC, MovBit, Jc, Jnc, Jb, Jnb, Jbc}
use Rattle.instructions.specs.declared.Control.{Control as ControlGroup}
use Rattle.instructions.specs.declared.Control.TheVariants.{Acall, Lcall, Ret, Reti, Ajmp, Ljmp, Sjmp, JmpDptr, Jz, Jnz, Cjne, Djnz, Nop}
use Rattle.instructions.specs.declared.Transfer.{Transfer as TransferGroup}
use Rattle.instructions.specs.declared.Transfer.TheVariants.{Mov, MovDptr, MovcDptr, MovcPc, MovxRead, MovxWrite, Push, Pop, Xch, Xchd}
use Rattle.instructions.specs.declared.Instruction.{Instruction}
use Rattle.instructions.specs.declared.Instruction.TheVariants.{Arithmetic, Logical, Transfer, Boolean, Control}
use Rattle.instructions.specs.Decode.{decode_of, decode_steps}
use Rattle.instructions.specs.Operands.{operands_of, of_arithmetic, of_logical, of_transfer, of_boolean, of_control, is_ie_or_ip, is_reti_of, has_ie_or_ip, polls_of}
use Rattle.instructions.specs.Tables.{cycles_of, is_register_of}
use Rattle.instructions.proofs.TablesHold.{cycles_hold, refused_hold, unpolled_hold}
use Rattle.core51.specs.declared.fault.Fault.{Fault}
use Rattle.core51.specs.declared.fault.Fault.TheVariants.{NoRegister, NoRam}
use Rattle.core51.specs.declared.places.Place.{Place}
use Rattle.core51.specs.declared.state.Registers.{Registers}
use Rattle.core51.specs.declared.state.Chip.{Chip}
use Rattle.core51.specs.State.{with_registers}
use Rattle.core51.specs.Registers.{dptr_of, pointer_of}
use Rattle.core51.specs.Stack.{up, down, push_of, pop_of, push_address_of, pop_address_of}
use Rattle.core51.specs.Places.{at_address, direct_of, indirect_of, place_of, port_of, put_of, write_of}
use Rattle.core51.specs.Operands.{Places, is_indirect, named_of, two_places, places_of, read_of, committed_of}
use Rattle.execute51.specs.declared.effect.Answer.{Answer}
use Rattle.execute51.specs.declared.external.Access.{Access}
use Rattle.execute51.specs.declared.told.Done.{Done}
use Rattle.execute51.specs.declared.told.Told.{Told}
use Rattle.execute51.specs.declared.fetch.Fetched.{Fetched}
use Rattle.arithmetic.specs.Addresses.{absolute_of, indexed_of}
use Rattle.execute51.specs.Arithmetic.{arithmetic_of}
use Rattle.execute51.specs.Logical.{logical_of}
use Rattle.execute51.specs.Boolean.{boolean_of}
use Rattle.execute51.specs.External.{as_data, code_of, write_data_of, address_of}
use Rattle.execute51.specs.Control.{call_of, return_of, control_of}
use Rattle.execute51.specs.Transfer.{look_up_of, movx_read_of, movx_write_of, inside, transfer_of}
use Rattle.execute51.specs.Effect.{Effect, jumping, effect_of}
use Rattle.execute51.specs.Fetch.{fetch_of}
use Rattle.execute51.specs.Told.{to_port, port_write_of}
use Rattle.execute51.specs.Execute.{target_byte, after, perform_of, decoded, instruction_of, execute_of}
use Rattle.execute51.specs.Laws.{Accessed, Latched, Shown, Shows, AnswersTarget, Targets, OpcodeShown, ShowsOpcode}

-- what holds of a result, if it is accepted
abbrev pub All : {A E : Type 0} → (A → Type 0) → Result A E → Type 0
All P (Ok x) = P x
All P (Err e) = Unit {0}

pub all_then : {A B E : Type 0} (P : A → Type 0) (Q : B → Type 0) (x : Result A E) (k : A → Result B E)
    → All P x → ((a : A) → P a → All Q (k a)) → All Q (then x k)
all_then P Q (Ok a) k h f = f a h
all_then P Q (Err e) k h f = tt

pub any : {A E : Type 0} (x : Result A E) → All (λ a. Unit {0}) x
any (Ok a) = tt
any (Err e) = tt

all_if : {A E H : Type 0} (P : A → Type 0) (x : Result A E) → (H → All P x) → All (λ a. H → P a) x
all_if P (Ok a) f = f
all_if P (Err e) f = tt

-- a place that is not IE or IP
abbrev Elsewhere : Place → Type 0
Elsewhere p = (p.at ≢ 0xa8) × (p.at ≢ 0xb8)

abbrev ElsewhereIf : Option Place → Type 0
ElsewhereIf None = Unit {0}
ElsewhereIf (Some p) = Elsewhere p

operand_elsewhere : (r : Registers) (o : Operand) → is_ie_or_ip (Some o) ≡ false → All Elsewhere (place_of r o)
operand_elsewhere r Accumulator h = (λ e. omega arith, λ e. omega arith)
operand_elsewhere r (Register n) h = (λ e. omega arith, λ e. omega arith)
operand_elsewhere r (Direct a) h =
    let f : a ≢ 0xa8 = λ e. grind (arith, nat_tests) in
    let g : a ≢ 0xb8 = λ e. grind (arith, nat_tests) in
    cond_both (ltb a 0x80 || is_register_of a) (Ok (at_address a)) (Err NoRegister) (All Elsewhere) (λ t. (f, g)) (λ t. tt)
operand_elsewhere r (Indirect n) h =
    cond_both (ltb (pointer_of r n) 0x80) (Ok (at_address (pointer_of r n))) (Err NoRam) (All Elsewhere)
    (λ t. (λ e. grind (arith, nat_tests), λ e. grind (arith, nat_tests))) (λ t. tt)
operand_elsewhere r (Bit b) h =
    cond_both (ltb b 0x80) (Ok (at_address (0x20 + b / 8))) (direct_of (b / 8 * 8)) (All Elsewhere)
    (λ t. (λ e. grind (arith, nat_tests), λ e. grind (arith, nat_tests)))
    (λ t. let f : b / 8 * 8 ≢ 0xa8 = λ e. grind (arith, nat_tests) in
    let g : b / 8 * 8 ≢ 0xb8 = λ e. grind (arith, nat_tests) in
    cond_both (ltb (b / 8 * 8) 0x80 || is_register_of (b / 8 * 8)) (Ok (at_address (b / 8 * 8))) (Err NoRegister) (All Elsewhere)
    (λ u. (f, g)) (λ u. tt))

named_elsewhere : (r : Registers) (o : Option Operand) → is_ie_or_ip o ≡ false → All ElsewhereIf (named_of r o)
named_elsewhere r None h = tt
named_elsewhere r (Some o) h = all_then Elsewhere ElsewhereIf (place_of r o) (λ p. Ok (Some p)) (operand_elsewhere r o h) (λ p k. k)

target_elsewhere : (r : Registers) (o : Operands Operand) → is_ie_or_ip o.target ≡ false
    → All (λ p. ElsewhereIf p.target) (places_of r o)
target_elsewhere r o h =
    let Q : Places → Type 0 = λ p. ElsewhereIf p.target in
    cond_both (is_indirect o.target) _ _ (All Q)
    (λ t. all_then (λ s. Unit {0}) Q (named_of r o.source) _ (any (named_of r o.source))
    (λ s u. all_then ElsewhereIf Q (named_of r o.target) (λ t. Ok (two_places t s)) (named_elsewhere r o.target h) (λ t k. k)))
    (λ t. all_then ElsewhereIf Q (named_of r o.target) _ (named_elsewhere r o.target h)
    (λ t k. all_then (λ s. Unit {0}) Q (named_of r o.source) (λ s. Ok (two_places t s)) (any (named_of r o.source)) (λ s u. k)))

-- a write elsewhere leaves IE and IP
control_cond : (b : Bool) (x y : Chip) → (cond b x y).control ≡ cond b x.control y.control
control_cond true x y = refl
control_cond false x y = refl

alike : {A : Type 0} (b : Bool) (x : A) → cond b x x ≡ x
alike true x = refl
alike false x = refl

put_control : (c : Chip) (a byte : ℕ) → a ≢ 0xa8 → a ≢ 0xb8 → (put_of c a byte).control ≡ c.control
unfolding put_of
put_control c a byte f g =
    let not_ie = ne_eqb a 0xa8 f in
    let not_ip = ne_eqb a 0xb8 g in
    simp (control_cond, not_ie, not_ip, alike)

write_control : (c : Chip) (p : Place) (byte : ℕ) → Elsewhere p → (write_of c p byte).control ≡ c.control
unfolding write_of
write_control c p byte h = simp (control_cond, put_control c p.at byte h.0 h.1, alike)

commit_control : (c : Chip) (p : Option Place) (byte : Option ℕ) → ElsewhereIf p → (committed_of c p byte).control ≡ c.control
commit_control c (Some p) (Some byte) h = write_control c p byte h
commit_control c (Some p) None h = refl
commit_control c None (Some byte) h = refl
commit_control c None None h = refl

-- what a poll follows names neither IE nor IP as its target
unnamed : (a b c : Bool) → (not a && not (b || c)) ≡ true → b ≡ false
unnamed true b c h = let z : ◌≡◌ {A = ℕ} 0 1 = cc in absurd (omega arith)
unnamed false true c h = let z : ◌≡◌ {A = ℕ} 0 1 = cc in absurd (omega arith)
unnamed false false c h = refl

reti_unpolled : (a b : Bool) → a ≡ true → (not a && b) ≡ false
reti_unpolled true b h = refl
reti_unpolled false b h = let z : ◌≡◌ {A = ℕ} 0 1 = cc in absurd (omega arith)

-- the access of a move
put_new : (f : ℕ → Option ℕ) (a b : ℕ) → put f a b a ≡ Some b
put_new f a b = rw (eq-eqb a a refl) refl

put_old : (f : ℕ → Option ℕ) (a b x : ℕ) → x ≢ a → put f a b x ≡ f x
put_old f a b x n = rw (ne_eqb x a n) refl

-- a read answers the data byte that is there
read_there : (m : Memory) (a : ℕ) (o : Option ℕ) → m.store a ≡ o
    → All {E = Fault} (λ byte. m.store a ≡ Some byte) (as_data (answer o))
read_there m a (Some byte) e = e
read_there m a None e = tt

-- a write puts its byte there and leaves the others
write_there : (m : Memory) (a byte : ℕ) (r : Result (Unit {0}) BusFault)
    → All {E = Fault} (λ (x : Unit {0} × Memory). (x.1.store a ≡ Some byte) × ((y : ℕ) → y ≢ a → x.1.store y ≡ m.store y))
    (as_data (then r (λ accepted. Ok (accepted, written m a byte))))
write_there m a byte (Ok x) = (put_new m.store a byte, put_old m.store a byte)
write_there m a byte (Err e) = tt

-- what an effect shows: its access, that it leaves the latches, and that it answers a byte if there is a target
abbrev Effected : Registers → Memory → Option Operand → Answer × (Registers × Memory) → Type 0
Effected r m target x =
    Accessed x.0.access m.store x.1.1.store × (x.1.0.latches ≡ r.latches) × (is_some x.0.byte ≡ is_some target)

-- the same of a group without an access: of the registers and the byte
abbrev Changed : Registers → Option Operand → Option ℕ × Registers → Type 0
Changed r target x = (x.1.latches ≡ r.latches) × (is_some x.0 ≡ is_some target)

arithmetic_changes : (i : ArithmeticGroup) (t s : ℕ) (r : Registers) → Changed r (of_arithmetic i).target (arithmetic_of i t s r)
arithmetic_changes (Add f) t s r = (refl, refl)
arithmetic_changes (Addc f) t s r = (refl, refl)
arithmetic_changes (Subb f) t s r = (refl, refl)
arithmetic_changes (Inc o) t s r = (refl, refl)
arithmetic_changes (Dec o) t s r = (refl, refl)
arithmetic_changes IncDptr t s r = (refl, refl)
arithmetic_changes Mul t s r = (refl, refl)
arithmetic_changes Div t s r = (refl, refl)
arithmetic_changes Da t s r = (refl, refl)

logical_changes : (i : LogicalGroup) (t s : ℕ) (r : Registers) → Changed r (of_logical i).target (logical_of i t s r)
logical_changes (Anl o f) t s r = (refl, refl)
logical_changes (Orl o f) t s r = (refl, refl)
logical_changes (Xrl o f) t s r = (refl, refl)
logical_changes ClrA t s r = (refl, refl)
logical_changes CplA t s r = (refl, refl)
logical_changes Rl t s r = (refl, refl)
logical_changes Rlc t s r = (refl, refl)
logical_changes Rr t s r = (refl, refl)
logical_changes Rrc t s r = (refl, refl)
logical_changes Swap t s r = (refl, refl)

-- of a group that says where it goes on
abbrev Jumped : Registers → Option Operand → (Option ℕ × ℕ) × Registers → Type 0
Jumped r target x = (x.1.latches ≡ r.latches) × (is_some x.0.0 ≡ is_some target)

boolean_changes : (i : BooleanGroup) (n t s : ℕ) (r : Registers) → Jumped r (of_boolean i).target (boolean_of i n t s r)
boolean_changes ClrC n t s r = (refl, refl)
boolean_changes (Clr b) n t s r = (refl, refl)
boolean_changes SetbC n t s r = (refl, refl)
boolean_changes (Setb b) n t s r = (refl, refl)
boolean_changes CplC n t s r = (refl, refl)
boolean_changes (Cpl b) n t s r = (refl, refl)
boolean_changes (AnlC b) n t s r = (refl, refl)
boolean_changes (AnlCNot b) n t s r = (refl, refl)
boolean_changes (OrlC b) n t s r = (refl, refl)
boolean_changes (OrlCNot b) n t s r = (refl, refl)
boolean_changes (MovC b) n t s r = (refl, refl)
boolean_changes (MovBit b) n t s r = (refl, refl)
boolean_changes (Jc o) n t s r = (refl, refl)
boolean_changes (Jnc o) n t s r = (refl, refl)
boolean_changes (Jb b o) n t s r = (refl, refl)
boolean_changes (Jnb b o) n t s r = (refl, refl)
boolean_changes (Jbc b o) n t s r = (refl, refl)

-- the stack leaves the latches
abbrev LatchesStay : {A : Type 0} → Registers → A × Registers → Type 0
LatchesStay r x = x.1.latches ≡ r.latches

pushed : (r : Registers) (byte : ℕ) → All (LatchesStay r) (push_of r byte)
pushed r byte = all_then (λ p. Unit {0}) (LatchesStay r) (indirect_of (up r.sp)) _ (any _) (λ p u. refl)

popped : (r : Registers) → All (LatchesStay r) (pop_of r)
popped r = all_then (λ p. Unit {0}) (LatchesStay r) (indirect_of r.sp) _ (any _) (λ p u. refl)

pushed_address : (r : Registers) (address : ℕ) → All (LatchesStay r) (push_address_of r address)
pushed_address r address =
    all_then (λ p. Unit {0}) (LatchesStay r) (indirect_of (up r.sp)) _ (any _)
    (λ p u. all_then (λ q. Unit {0}) (LatchesStay r) (indirect_of (up (up r.sp))) _ (any _) (λ q v. refl))

popped_address : (r : Registers) → All (LatchesStay r) (pop_address_of r)
popped_address r =
    all_then (λ p. Unit {0}) (LatchesStay r) (indirect_of r.sp) _ (any _)
    (λ p u. all_then (λ q. Unit {0}) (LatchesStay r) (indirect_of (down r.sp)) _ (any _) (λ q v. refl))

calls : (n a : ℕ) (r : Registers) → All (Jumped r None) (call_of n a r)
calls n a r = all_then (LatchesStay r) (Jumped r None) (push_address_of r n) _ (pushed_address r n) (λ x h. (h, refl))

goes_back : (r : Registers) → All (Jumped r None) (return_of r)
goes_back r = all_then (LatchesStay r) (Jumped r None) (pop_address_of r) _ (popped_address r) (λ x h. (h, refl))

control_changes : (i : ControlGroup) (n t s : ℕ) (r : Registers) → All (Jumped r (of_control i).target) (control_of i n t s r)
control_changes (Acall p) n t s r = calls n (absolute_of n p) r
control_changes (Lcall a) n t s r = calls n a r
control_changes Ret n t s r = goes_back r
control_changes Reti n t s r = goes_back r
control_changes (Ajmp p) n t s r = (refl, refl)
control_changes (Ljmp a) n t s r = (refl, refl)
control_changes (Sjmp o) n t s r = (refl, refl)
control_changes JmpDptr n t s r = (refl, refl)
control_changes (Jz o) n t s r = (refl, refl)
control_changes (Jnz o) n t s r = (refl, refl)
control_changes (Cjne l (Named x) o) n t s r = (refl, refl)
control_changes (Cjne l (Immediate x) o) n t s r = (refl, refl)
control_changes (Djnz x o) n t s r = (refl, refl)
control_changes Nop n t s r = (refl, refl)

-- of the group that can use the bus
abbrev Moved : Registers → Memory → Option Operand → (Option ℕ × Option Access) × (Registers × Memory) → Type 0
Moved r m target x =
    Accessed x.0.1 m.store x.1.1.store × (x.1.0.latches ≡ r.latches) × (is_some x.0.0 ≡ is_some target)

looks_up : (base : ℕ) (r : Registers) (m : Memory)
    → All (Moved r m None) (then (look_up_of base r m) (λ x. Ok (inside m x)))
looks_up base r m =
    all_then (Changed r None) (Moved r m None) (look_up_of base r m) _
    (all_then (λ b. Unit {0}) (Changed r None) (code_of m (indexed_of base r.a)) _ (any _) (λ b u. (refl, refl)))
    (λ x h. (λ y. refl, h.0, h.1))

moves_told : (i : TransferGroup) (next target source : ℕ) (r : Registers) (m : Memory)
    → All (Moved r m (of_transfer i).target) (transfer_of i next target source r m)
moves_told (Mov o from) next target source r m = (λ x. refl, refl, refl)
moves_told (MovDptr address) next target source r m = (λ x. refl, refl, refl)
moves_told MovcDptr next target source r m = looks_up (dptr_of r) r m
moves_told MovcPc next target source r m = looks_up next r m
moves_told (MovxRead from) next target source r m =
    let a = address_of r from in
    let P : Access × Registers → Type 0 = λ y. Moved r m None ((None, Some y.0), (y.1, m)) in
    all_then P (Moved r m None) (movx_read_of from r m) _
    (all_then (λ byte. m.store a ≡ Some byte) P (as_data (answer (m.store a))) _ (read_there m a (m.store a) refl)
    (λ byte e. ((e, λ x. refl), refl, refl)))
    (λ y h. h)
moves_told (MovxWrite to) next target source r m =
    let a = address_of r to in
    let P : Access × Memory → Type 0 = λ y. Moved r m None ((None, Some y.0), (r, y.1)) in
    let Q : Unit {0} × Memory → Type 0 = λ x. (x.1.store a ≡ Some r.a) × ((y : ℕ) → y ≢ a → x.1.store y ≡ m.store y) in
    all_then P (Moved r m None) (movx_write_of to r m) _
    (all_then Q P (write_data_of m a r.a) _ (write_there m a r.a (accepts (m.store a) (m.writable a))) (λ y h. (h, refl, refl)))
    (λ y h. h)
moves_told (Push o) next target source r m =
    all_then (LatchesStay r) (Moved r m None) (push_of r source) _ (pushed r source) (λ y h. (λ x. refl, h, refl))
moves_told (Pop o) next target source r m =
    all_then (LatchesStay r) (Moved r m (Some (Direct o))) (pop_of r) _ (popped r) (λ y h. (λ x. refl, h, refl))
moves_told (Xch o) next target source r m = (λ x. refl, refl, refl)
moves_told (Xchd n) next target source r m = (λ x. refl, refl, refl)

pub effect_told : (i : Instruction) (next target source : ℕ) (r : Registers) (m : Memory)
    → All (Effected r m (operands_of i).target) (effect_of i next target source r m)
unfolding effect_of
effect_told (Arithmetic i) next target source r m = let h = arithmetic_changes i target source r in (λ x. refl, h.0, h.1)
effect_told (Logical i) next target source r m = let h = logical_changes i target source r in (λ x. refl, h.0, h.1)
effect_told (Transfer i) next target source r m =
    all_then (Moved r m (of_transfer i).target) (Effected r m (of_transfer i).target) (transfer_of i next target source r m) _
    (moves_told i next target source r m) (λ y h. h)
effect_told (Boolean i) next target source r m = let h = boolean_changes i next target source r in (λ x. refl, h.0, h.1)
effect_told (Control i) next target source r m =
    all_then (Jumped r (of_control i).target) (Effected r m (of_control i).target) (control_of i next target source r) (λ y. jumping m y)
    (control_changes i next target source r) (λ y h. (λ x. refl, h.0, h.1))

targets_of : (i : Instruction) (r : Registers) (m : Memory) (x : Effect) → All (Effected r m (operands_of i).target) x → AnswersTarget i x
targets_of i r m (Ok x) h = h.2
targets_of i r m (Err e) h = tt

pub targets : Targets
targets i next target source r m = targets_of i r m (effect_of i next target source r m) (effect_told i next target source r m)

-- a byte put into a place: the latches change if it is a port
latches_cond : (b : Bool) (x y : Chip) → (cond b x y).registers.latches ≡ cond b x.registers.latches y.registers.latches
latches_cond true x y = refl
latches_cond false x y = refl

put_latches : (c : Chip) (a byte : ℕ) → a ≢ 0x80 → a ≢ 0x90 → a ≢ 0xa0 → a ≢ 0xb0 → (put_of c a byte).registers.latches ≡ c.registers.latches
unfolding put_of
put_latches c a byte f0 f1 f2 f3 =
    let n0 = ne_eqb a 0x80 f0 in
    let n1 = ne_eqb a 0x90 f1 in
    let n2 = ne_eqb a 0xa0 f2 in
    let n3 = ne_eqb a 0xb0 f3 in
    simp (latches_cond, n0, n1, n2, n3, alike)

write_elsewhere : (c : Chip) (a byte : ℕ) → a ≢ 0x80 → a ≢ 0x90 → a ≢ 0xa0 → a ≢ 0xb0
    → (write_of c (at_address a) byte).registers.latches ≡ c.registers.latches
unfolding write_of
write_elsewhere c a byte f0 f1 f2 f3 = simp (latches_cond, put_latches c a byte f0 f1 f2 f3, alike)

no_port : (a : ℕ) → a ≢ 0x80 → a ≢ 0x90 → a ≢ 0xa0 → a ≢ 0xb0 → port_of (at_address a) ≡ None
no_port a f0 f1 f2 f3 = simp (ne_eqb a 0x80 f0, ne_eqb a 0x90 f1, ne_eqb a 0xa0 f2, ne_eqb a 0xb0 f3)

abbrev Written : Chip → ℕ → ℕ → Type 0
Written c byte a = Latched (to_port (port_of (at_address a)) byte) c.registers.latches (write_of c (at_address a) byte).registers.latches

write_latches : (c : Chip) (a byte : ℕ) → Written c byte a
unfolding write_of put_of
write_latches c a byte =
    elim (cases_eq a 0x80) [
      | inl e ↦ subst (Written c byte) (sym e) refl
      | inr f0 ↦
          elim (cases_eq a 0x90) [
            | inl e ↦ subst (Written c byte) (sym e) refl
            | inr f1 ↦
                elim (cases_eq a 0xa0) [
                  | inl e ↦ subst (Written c byte) (sym e) refl
                  | inr f2 ↦
                      elim (cases_eq a 0xb0) [
                        | inl e ↦ subst (Written c byte) (sym e) refl
                        | inr f3 ↦
                            subst (λ (o : Option Port). Latched (to_port o byte) c.registers.latches (write_of c (at_address a) byte).registers.latches)
                            (sym (no_port a f0 f1 f2 f3)) (write_elsewhere c a byte f0 f1 f2 f3)
                      ]
                ]
          ]
    ]

commit_latches : (c : Chip) (p : Option Place) (byte : Option ℕ)
    → Latched (port_write_of p byte) c.registers.latches (committed_of c p byte).registers.latches
commit_latches c (Some p) (Some byte) = write_latches c p.at byte
commit_latches c (Some p) None = refl
commit_latches c None (Some byte) = refl
commit_latches c None None = refl

-- a decoded instruction
abbrev Performed : Instruction → Chip → Memory → Done × (Chip × Memory) → Type 0
Performed i c m x =
    (polls_of i ≡ true → x.1.0.control ≡ c.control) × Accessed x.0.access m.store x.1.1.store
    × Latched x.0.port c.registers.latches x.1.0.registers.latches

perform_told : {S : Type 0} (levels : Pins S) (i : Instruction) (next : ℕ) (c : Chip) (m : Memory) → All (Performed i c m) (perform_of levels i next c m)
unfolding perform_of
perform_told levels i next c m =
    let P : Places → Type 0 = λ p. polls_of i ≡ true → ElsewhereIf p.target in
    let o = operands_of i in
    all_then P (Performed i c m) (places_of c.registers o) _
    (all_if (λ p. ElsewhereIf p.target) (places_of c.registers o)
    (λ h. target_elsewhere c.registers o (unnamed (is_reti_of i) (is_ie_or_ip o.target) (is_ie_or_ip o.source) h)))
    (λ p hp. all_then (Effected c.registers m o.target) (Performed i c m)
    (effect_of i next (target_byte levels c i p.target) (read_of levels c p.source) c.registers m) _
    (effect_told i next (target_byte levels c i p.target) (read_of levels c p.source) c.registers m)
    (λ x hx. (
      λ h. commit_control (with_registers c x.1.0) p.target x.0.byte (hp h),
      hx.0,
      subst (λ (old : List ℕ). Latched (port_write_of p.target x.0.byte) old (after c p.target x.0 x.1.0).registers.latches)
          hx.1 (commit_latches (with_registers c x.1.0) p.target x.0.byte),
    )))

-- what decodes is an opcode
an_opcode : (op x y : ℕ) (i : Instruction) → decode_of op x y ≡ Some i → op < 256
an_opcode op x y i e =
    elim (cases_lt op 256) [
      | inl h ↦ h
      | inr h ↦ let n : decode_of op x y ≡ None = refused_hold.1 op x y h in
          let z : ◌≡◌ {A = ℕ} 0 1 = cc in absurd (omega arith)
    ]

cycles_some : (op : ℕ) → op < 256 → (0 < cycles_of op) × (cycles_of op ≤ 4) × (cycles_of op ≢ 3)
cycles_some op h =
    elim (cycles_hold op h) [
      | inl k ↦ (omega (arith, k.0), omega (arith, k.1), λ e. omega (arith, k.1))
      | inr k ↦ (omega (arith, k.0), omega (arith, k.0), λ e. omega (arith, k.0))
    ]

-- RETI decodes from 32H alone
abbrev is_reti_any : Option Instruction → Bool
is_reti_any (Some i) = is_reti_of i
is_reti_any None = false

reti_decoded : (op x y : ℕ) (i : Instruction) → decode_of op x y ≡ Some i → op < 256 → is_reti_of i ≡ eqb op 0x32
unfolding decode_of
reti_decoded op x y i e h =
    sym (ap is_reti_any e) ∙ agree_below_at (λ n. is_reti_any (decode_steps n x y)) (λ n. eqb n 0x32) 256 op refl h

-- all that an accepted instruction shows
abbrev pub ShownAt : Chip → Memory → Told × (Chip × Memory) → Type 0
ShownAt c m x = Shown c m x.0 x.1.0 x.1.1 × OpcodeShown x.0

decoded_told : {S : Type 0} (levels : Pins S) (o : Option Instruction) (f : Fetched) (c : Chip) (m : Memory)
    → decode_of f.opcode f.first f.second ≡ o → All (ShownAt c m) (decoded o f levels c m)
decoded_told levels None f c m e = tt
decoded_told levels (Some i) f c m e =
    let h : f.opcode < 256 = an_opcode f.opcode f.first f.second i e in
    all_then (Performed i c m) (ShownAt c m) (perform_of levels i f.next c m) _ (perform_told levels i f.next c m)
    (λ x k. (
      record {
        same_control = k.0;
        reti_silent = reti_unpolled (is_reti_of i) (not (has_ie_or_ip (operands_of i)));
        some_cycle = (cycles_some f.opcode h).0;
        most_cycles = (cycles_some f.opcode h).1;
        silent_cycles = unpolled_hold f.opcode f.first f.second i e;
        accesses = k.1;
        latches = k.2;
      },
      record { reti_opcode = reti_decoded f.opcode f.first f.second i e h; never_three = (cycles_some f.opcode h).2 },
    ))

instruction_told : {S : Type 0} (levels : Pins S) (c : Chip) (m : Memory) → All (ShownAt c m) (instruction_of levels c m)
unfolding instruction_of
instruction_told levels c m =
    all_then (λ f. Unit {0}) (ShownAt c m) (fetch_of m c.registers.pc) _ (any _)
    (λ f u. decoded_told levels (decode_of f.opcode f.first f.second) f c m refl)

pub execute_told : {S : Type 0} (levels : Pins S) (c : Chip) (m : Memory) → All (ShownAt c m) (execute_of levels c m)
unfolding execute_of
execute_told levels c m =
    all_then (ShownAt c m) (ShownAt c m) (instruction_of levels c m) _ (instruction_told levels c m)
    (λ x k. (
      record {
        same_control = k.0.same_control;
        reti_silent = k.0.reti_silent;
        some_cycle = k.0.some_cycle;
        most_cycles = k.0.most_cycles;
        silent_cycles = k.0.silent_cycles;
        accesses = k.0.accesses;
        latches = k.0.latches;
      },
      k.1,
    ))

-- the same of the call: a refusal shows nothing
shows_kept : (c : Chip) (m : Memory) (x : Result (Told × (Chip × Memory)) Fault) → All (ShownAt c m) x
    → Shows c m (kept (c, m) x).0 (kept (c, m) x).1.0 (kept (c, m) x).1.1 × ShowsOpcode (kept (c, m) x).0
shows_kept c m (Ok x) h = h
shows_kept c m (Err e) h = (tt, tt)

-- so it holds of whatever the call's equation says
pub execute_shows : {S : Type 0} (levels : Pins S) (c : Chip) (m : Memory) (r : Result Told Fault) (d : Chip) (n : Memory)
    → (r, (d, n)) ≡ kept (c, m) (execute_of levels c m) → Shows c m r d n × ShowsOpcode r
execute_shows levels c m r d n e =
    let P : Result Told Fault × (Chip × Memory) → Type 0 = λ x. Shows c m x.0 x.1.0 x.1.1 × ShowsOpcode x.0 in
    subst P (sym e) (shows_kept c m (execute_of levels c m) (execute_told levels c m))
