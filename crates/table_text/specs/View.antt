-- The crate's machines in terms of the definitions: what each waits for as a kind, and a reason as its number.
use Rattle.std.specs.Prelude.{ℕ}
use Rattle.table_text.specs.declared.reason.Reason.{Reason}
use Rattle.table_text.specs.declared.reason.Reason.TheVariants.{TextTooLong, BadHeader, BadLayout, BadByte, ShortWord, LongWord, RowPastDepth, Unread}
use Rattle.table_text.specs.declared.head.Kind.{Kind as HeadKind}
use Rattle.table_text.specs.declared.head.Kind.TheVariants as heads
use Rattle.table_text.specs.declared.head.Head.{Head as HeadMachine}
use Rattle.table_text.specs.declared.scan.Kind.{Kind as ScanKind}
use Rattle.table_text.specs.declared.scan.Kind.TheVariants as scans
use Rattle.table_text.specs.declared.scan.Scan.{Scan as ScanMachine}
use Rattle.table_text.specs.Head.{Head}
use Rattle.table_text.specs.Scan.{Scan}

abbrev pub reason_number : Reason → ℕ
reason_number TextTooLong = 8
reason_number BadHeader = 9
reason_number BadLayout = 10
reason_number BadByte = 11
reason_number ShortWord = 12
reason_number LongWord = 13
reason_number RowPastDepth = 14
reason_number Unread = 15

abbrev pub head_kind : HeadKind → ℕ
head_kind heads.Gap = 0
head_kind (heads.Number v) = 1
head_kind heads.AfterPlain = 2
head_kind heads.Read = 3
head_kind (heads.Plain k) = 4
head_kind (heads.Refused r v) = reason_number r

abbrev pub scan_kind : ScanKind → ℕ
scan_kind scans.Gap = 0
scan_kind (scans.Word n) = 1
scan_kind (scans.Number v) = 2
scan_kind scans.Slash = 3
scan_kind scans.Comment = 4
scan_kind scans.At = 5
scan_kind (scans.Refused r n v) = reason_number r

-- the number in hand, 0 where there is none
abbrev pub head_value : HeadKind → ℕ
head_value heads.Gap = 0
head_value (heads.Number v) = v
head_value heads.AfterPlain = 0
head_value heads.Read = 0
head_value (heads.Plain k) = k
head_value (heads.Refused r v) = v

-- the bits that are to come, and the row number, 0 where there are none
abbrev pub scan_left : ScanKind → ℕ
scan_left scans.Gap = 0
scan_left (scans.Word n) = n
scan_left (scans.Number v) = 0
scan_left scans.Slash = 0
scan_left scans.Comment = 0
scan_left scans.At = 0
scan_left (scans.Refused r n v) = n

abbrev pub scan_value : ScanKind → ℕ
scan_value scans.Gap = 0
scan_value (scans.Word n) = 0
scan_value (scans.Number v) = v
scan_value scans.Slash = 0
scan_value scans.Comment = 0
scan_value scans.At = 0
scan_value (scans.Refused r n v) = v

abbrev pub head_of : HeadMachine → Head
head_of h = record { kind = head_kind h.kind; field = h.field; count = h.count; value = head_value h.kind }

abbrev pub scan_of : ScanMachine → Scan
scan_of s = record { kind = scan_kind s.kind; line = s.line; row = s.row; left = scan_left s.kind; value = scan_value s.kind }
