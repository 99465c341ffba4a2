-- The text of a list of records: a line of hexadecimal digits for each, and a last line that says what stopped it.
use Rattle.std.specs.Prelude.{ℕ, ◌+◌, ◌/◌, ◌%◌, cond, List, [], ◌∷◌, ◌++◌, length, take, drop, Ok, Err, codes, Result, nat_lt}
use Rattle.std.specs.List.{flat_map}
use Rattle.records.specs.declared.refusals.Refusal.{Refusal}
use Rattle.records.specs.declared.refusals.Refusal.TheVariants.{TooLittleRoom}
use Rattle.records.specs.declared.pins.PinRecord.{PinRecord}
use Rattle.record_files.specs.File.{file_records}
use Rattle.records.specs.Pin.{pin_bytes, pin_taken, pin_ordered}
use Rattle.records.specs.Refusal.{number_of}

-- the capital digit of base sixteen for a number below sixteen
abbrev pub digit_of : ℕ → ℕ
digit_of n = cond (nat_lt n 10) (48 + n) (55 + n)

abbrev pub hex_byte : ℕ → List ℕ
hex_byte b = digit_of (b / 16) ∷ digit_of (b % 16) ∷ []

abbrev pub line_feed : ℕ
line_feed = 10

-- two digits a byte, high digit first
abbrev pub hex_line : List ℕ → List ℕ
hex_line bs = flat_map hex_byte bs ++ (line_feed ∷ [])

-- the word, a space and the number in two decimal digits
abbrev pub stop_line : ℕ → List ℕ
stop_line n = codes "stop " ++ ((48 + n / 10 % 10) ∷ (48 + n % 10) ∷ line_feed ∷ [])

abbrev pub record_line : {R : Type 0} → (R → List ℕ) → R → List ℕ
record_line image r = hex_line (image r)

abbrev pub text_of : {R : Type 0} → (R → List ℕ) → List R → ℕ → List ℕ
text_of image rs stop = flat_map (record_line image) rs ++ stop_line stop

-- a text written to the front of a memory, and its length; what lies past it stays
abbrev pub printed : List ℕ → List ℕ → Result (ℕ × List ℕ) Refusal
printed text out = cond (nat_lt (length out) (length text)) (Err TooLittleRoom) (Ok (length text, text ++ drop (length text) out))

-- the text of a file of pin records: its records and 0, or no record and the refusal's number
abbrev pub outcome_text : Result (List PinRecord) Refusal → List ℕ
outcome_text (Ok rs) = text_of pin_bytes rs 0
outcome_text (Err e) = text_of pin_bytes [] (number_of e)

abbrev pub file_text : List ℕ → List ℕ
file_text file = outcome_text (file_records 8 pin_taken pin_ordered file)

-- of a file of pins only the first 4,096 bytes count
abbrev pub pins_text : List ℕ → List ℕ
pins_text file = file_text (take 4096 file)
