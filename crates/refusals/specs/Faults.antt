-- The refusal that each fault stands for: its number, its layer and its place. Assumes nothing.
use Rattle.std.specs.Prelude.{ℕ}
use Rattle.refusals.specs.declared.layer.Layer.{Layer}
use Rattle.refusals.specs.declared.layer.Layer.TheVariants.{Order, Text, File, Net, Strategy, Run, Reading}
use Rattle.refusals.specs.declared.refusal.Refusal.{Refusal}
use Rattle.refusals.specs.declared.faults.OrderFault.{OrderFault}
use Rattle.refusals.specs.declared.faults.TextFault.{TextFault}
use Rattle.refusals.specs.declared.faults.FileFault.{FileFault}
use Rattle.refusals.specs.declared.faults.NetFault.{NetFault}
use Rattle.refusals.specs.declared.faults.StrategyFault.{StrategyFault}
use Rattle.refusals.specs.declared.faults.RunFault.{RunFault}
use Rattle.refusals.specs.declared.faults.ReadingFault.{ReadingFault}

abbrev pub refused : ℕ → Layer → ℕ → Refusal
refused number layer place = record { number = number; layer = layer; place = place }

-- a program's order
abbrev pub order_refusal : OrderFault → Refusal
order_refusal OrderFault.NoStrategy = refused 22 Order 0

-- a text; places count bytes
abbrev pub text_refusal : TextFault → Refusal
text_refusal TextFault.TooLong = refused 1 Text 8192
text_refusal (TextFault.Grammar at) = refused 2 Text at
text_refusal (TextFault.Unbound at) = refused 3 Text at
text_refusal (TextFault.UsedTwice at) = refused 4 Text at
text_refusal (TextFault.Unused at) = refused 5 Text at
text_refusal TextFault.TooLarge = refused 6 Text 0

-- a file, read or written; places count words
abbrev pub file_refusal : FileFault → Refusal
file_refusal FileFault.NoRoom = refused 7 File 0
file_refusal FileFault.Length = refused 8 File 0
file_refusal (FileFault.Header word) = refused 9 File word
file_refusal (FileFault.BadCell word) = refused 10 File word
file_refusal (FileFault.BadLink word) = refused 11 File word
file_refusal (FileFault.Words word) = refused 13 File word

-- the links of a file; places count words
abbrev pub net_refusal : NetFault → Refusal
net_refusal (NetFault.NotMutual word) = refused 12 Net word

abbrev pub strategy_refusal : StrategyFault → Refusal
strategy_refusal StrategyFault.Empty = refused 14 Strategy 0
strategy_refusal StrategyFault.Full = refused 21 Strategy 0

abbrev pub run_refusal : RunFault → Refusal
run_refusal RunFault.Foreign = refused 15 Run 0
run_refusal RunFault.NoPlace = refused 16 Run 0
run_refusal RunFault.Spent = refused 17 Run 0
run_refusal RunFault.Busy = refused 18 Run 0

-- reading a net back as a term
abbrev pub reading_refusal : ReadingFault → Refusal
reading_refusal ReadingFault.NoRoom = refused 7 Reading 0
reading_refusal ReadingFault.NoTerm = refused 19 Reading 0
reading_refusal ReadingFault.FewItems = refused 20 Reading 0
