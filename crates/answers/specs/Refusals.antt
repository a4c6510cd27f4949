-- Document 01, 'Where a call is turned down', and from 13 on document 02: the refusals by their numbers. Assumes nothing.
use Rattle.std.specs.Prelude.{ℕ}

-- 'e outside 2 to 8'
abbrev pub page_size_wrong : ℕ
page_size_wrong = 1

-- 'over 65,536 counts'
abbrev pub list_too_long : ℕ
list_too_long = 2

-- 'above 4,294,967,295'; 'refusal 3 for images starts above 2^40 - 1'
abbrev pub total_too_high : ℕ
total_too_high = 3

-- 'output buffer shorter than the image'
abbrev pub buffer_short : ℕ
buffer_short = 4

-- 'image header'
abbrev pub header_wrong : ℕ
header_wrong = 5

-- 'image body'
abbrev pub body_damaged : ℕ
body_damaged = 6

-- 'hour, as in the plain list'
abbrev pub not_logged : ℕ
not_logged = 7

-- 'figure, p above the total'
abbrev pub above_total : ℕ
above_total = 8

-- 'P, C or buffer length wrong'
abbrev pub fresh_wrong : ℕ
fresh_wrong = 9

-- 'store, not sound'
abbrev pub store_not_sound : ℕ
store_not_sound = 10

-- 'append, log full'
abbrev pub log_full : ℕ
log_full = 11

-- 'cells, need above C'
abbrev pub cells_short : ℕ
cells_short = 12

-- note 1: 'k is 0 or above N'
abbrev pub stretch_wrong : ℕ
stretch_wrong = 13

-- note 3: 'a book of odd length or with a digit above 9'
abbrev pub book_wrong : ℕ
book_wrong = 14

-- note 3: 'an image with a count above 9999'
abbrev pub count_too_wide : ℕ
count_too_wide = 15

-- note 4: 'a list with an odd number of entries, or whose day numbers don't rise strictly or whose hours are neither 23 nor 25'
abbrev pub changes_wrong : ℕ
changes_wrong = 16

-- note 7: 'a q of 0'
abbrev pub bag_empty : ℕ
bag_empty = 17

-- note 10: 'a wrong store length, a header with byte 0, byte 1, bytes 10-11, P, C or N out of document 01's rules, or a list buffer shorter
-- than P entries'
abbrev pub not_repairable : ℕ
not_repairable = 18
