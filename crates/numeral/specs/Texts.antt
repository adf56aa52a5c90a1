-- What is printed.
use Rattle.std.specs.Prelude.{ℕ, List, codes}
use Rattle.numeral.specs.declared.wrong.Fault as fault

-- What is said of a fault.
abbrev pub text_of : fault.Fault → List ℕ
text_of fault.Fault.UnknownCommand = codes "unknown command"
text_of fault.Fault.BadAddress = codes "bad address"
text_of fault.Fault.BadNumber = codes "bad number"
text_of fault.Fault.BadPrefix = codes "bad prefix"
text_of fault.Fault.BadHop = codes "bad hop"
text_of fault.Fault.TooFewWords = codes "too few words"
text_of fault.Fault.TooManyWords = codes "too many words"
text_of fault.Fault.LineTooLong = codes "line too long"
text_of fault.Fault.OutsideBuffer = codes "outside the buffer"
