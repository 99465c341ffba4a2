use Rattle.std.proofs.Common.{◌≡◌, length, get_or, arith, rules}
use Rattle.records.specs.Bytes.{byte0, byte1}
use Rattle.records.specs.Trace.{cycles_number, marks_byte}
use Rattle.records.proofs.Layouts.{spell}
use Rattle.records.proofs.traces.TraceRecordRecord.take.Goals as goal

pub returns-in_ok-marks-in-len8-clause-exact : goal.returns-in_ok-marks-in-len8-clause-exact
returns-in_ok-marks-in-len8-clause-exact c =
    let n : length c.args.bytes.now ≡ 8 = search rules in
    let k = c.in_ok-kind-in-len8.ensures.1 in
    let y : cycles_number c.in_ok-cycles-in-len8.cycles ≡ get_or c.args.bytes.now 4 0 = c.in_ok-cycles-in-len8.ensures.1 in
    let m : marks_byte c.in_ok-marks-in-len8.marks ≡ get_or c.args.bytes.now 6 0 = c.in_ok-marks-in-len8.ensures.1 in
    let p1 : byte1 c.from_be_bytes-pc.result ≡ get_or c.args.bytes.now 1 0 = omega arith in
    let p0 : byte0 c.from_be_bytes-pc.result ≡ get_or c.args.bytes.now 2 0 = omega arith in
    let s = spell 8 c.args.bytes.now n in
    cc
