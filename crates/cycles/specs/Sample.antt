-- The sample of the five interrupt requests.
use Rattle.std.specs.Prelude.{ℕ, Bool, ◌&&◌, ◌||◌}
use Rattle.arithmetic.specs.Bits.{bit_of}
use Rattle.cycles.specs.declared.sample.Sample.{Sample}

abbrev pub requests : (ie0 tf0 ie1 tf1 ri_or_ti : Bool) → Sample
requests ie0 tf0 ie1 tf1 ri_or_ti = record { external0 = ie0; timer0 = tf0; external1 = ie1; timer1 = tf1; serial = ri_or_ti }

-- IE0, TF0, IE1 and TF1 are bits 1, 5, 3 and 7 of TCON; RI and TI are bits 0 and 1 of SCON
abbrev pub sample_of : ℕ → ℕ → Sample
sample_of tcon scon = requests (bit_of tcon 1) (bit_of tcon 5) (bit_of tcon 3) (bit_of tcon 7) (bit_of scon 0 || bit_of scon 1)

-- the requests whose bit is 1 in IE or IP: bits 0 to 4, by source
abbrev pub masked_of : Sample → ℕ → Sample
masked_of s byte =
    requests (s.external0 && bit_of byte 0) (s.timer0 && bit_of byte 1) (s.external1 && bit_of byte 2) (s.timer1 && bit_of byte 3) (s.serial && bit_of byte 4)
