-- What the checker computes with. An example's proof is `refl`, with the definitions that it computes through unfolded: they are named here once,
-- by what an example is about. Assumes nothing.
use Rattle.lists.specs.Counts.{within as within_limit}
use Rattle.lists.specs.Lists.{concat, every, fill, first, least, occurrences, one, pick, reached, same, sum, tabulate, window}
use Rattle.bits.specs.Bits.{bits, field, value_from}
use Rattle.bits.specs.Numbers.{little, number}
use Rattle.bits.specs.Pack.{pack}
use Rattle.reserve.specs.Reserve.{ceil, reserve}
use Rattle.tree.specs.Ranges.{child, node}
use Rattle.tree.specs.Read.{counts, later, left_of, walk}
use Rattle.tree.specs.Tree.{tree}
use Rattle.days.specs.Days.{changes_fit, day_end, day_hours, day_numbers, day_start, hours_given, is_change_day, rises}
use Rattle.store.specs.Call.{after, call, fresh_call, settle}
use Rattle.store.specs.Fitting.{fits}
use Rattle.store.specs.Layout.{bytes_of, entry, fresh, header, laid_at, lay, lay_all, lay_pages}
use Rattle.store.specs.OneCell.{give_cell, take_cell, times}
use Rattle.store.specs.PageCode.{cells, page_bytes, counts_in_page}
use Rattle.store.specs.Plain.{change, inserted, need, next, page, plain_answers, step, struck}
use Rattle.store.specs.Reading.{chain_from, chain_in, code_in, page_in, read, read_for, spare_in, sum_in}
use Rattle.store.specs.Settle.{pagewise, settled, settled_by_cells, shrunk, size_to}
use Rattle.store.specs.Sound.{fine, on_chains, sound, tests, within}
use Rattle.coin_cost.specs.Cost.{cells_for, gain, page_gain}
use Rattle.image.specs.Calls.{length_call, past, put, put_after, unwritten, write_call}
use Rattle.image.specs.Check.{accepted, check, headed, wide_right}
use Rattle.image.specs.Image.{bytes_for, code, header as image_header, header_in, image, packed, page as page_of_image, page_code, pages, root, size, start}
use Rattle.image.specs.Image.{table, wide}
use Rattle.image.specs.Query.{before_passing, count, ended as walk_ended, look, count_in_page, page_fine, reading, reading_at, the_count, the_reading}
use Rattle.image.specs.Read.{before_of, code_at, e_of, l_of, list_of, n_of, page_of, page_count_of, root_at, s_of, start_of, sum_of, tree_at, wide_of, width_of}
use Rattle.repair.specs.Repair.{behind, is_kept, keep_tests, keeps, kept_chain, kept_counts, kept_of, lost_pages, passed, repair_call, repair_tests}
use Rattle.repair.specs.Repair.{repairable, repaired, sieve, unused}
use Rattle.freeze.specs.Freeze.{freeze_call}
use Rattle.book.specs.Book.{book_of, decimal, decimal_byte, four_digits, list_of_book}
use Rattle.book_in.specs.FromBook.{from_call}
use Rattle.book_out.specs.ToBook.{book_put, to_call}
use Rattle.image_merge.specs.Merge.{merge_call, merge_lists, sums}
use Rattle.words.specs.End.{end_of_check, end_of_image, end_of_store}
use Rattle.words.specs.Words.{minus, pair, word_of}
use Rattle.demands.specs.Demand3.{words_of}
use Rattle.demands.proofs.ExampleForms.{binary, ended, endings, fresh_word, fresh_words, hex, plain_words}
use Rattle.demands.proofs.ExampleSearches.{busiest_tests, match_tests, none_earlier, reach_word, reach_words}

-- lists, and the words of C
unfoldable pub the-words : Unit {0}
unfolding concat every fill first least occurrences one pick reached same sum tabulate window word_of end_of_store end_of_image end_of_check pair minus hex binary
the-words = tt

-- the live calls on the plain list
unfoldable pub the-plain-list : Unit {0}
unfolding the-words reserve ceil cells page need change inserted struck step next plain_answers words_of plain_words changes_fit day_end day_hours
    day_numbers day_start hours_given is_change_day rises cells_for gain page_gain
the-plain-list = tt

-- numbers as bytes, and trees as bits
unfoldable pub the_code : Unit {0}
unfolding the-words reserve ceil bits field value_from little number pack tree counts left_of walk later node child
the_code = tt

-- an image: written, tested and asked
unfoldable pub the-image : Unit {0}
unfolding the_code length_call write_call put_after put unwritten image image_header header_in wide table packed code start page_code root page_of_image pages
    bytes_for size headed wide_right accepted within_limit check wide_of e_of n_of s_of l_of page_count_of width_of start_of code_at root_at before_of sum_of tree_at
    page_of list_of count reading reading_at walk_ended look count_in_page the_count the_reading page_fine before_passing ended endings reach_word reach_words
the-image = tt

-- runs of hours, one by one
unfoldable pub the-runs : Unit {0}
unfolding the-words busiest_tests match_tests none_earlier
the-runs = tt

-- books
unfoldable pub the-book : Unit {0}
unfolding the-image from_call to_call past book_put decimal decimal_byte list_of_book book_of four_digits
the-book = tt

-- two doors
unfoldable pub the-merge : Unit {0}
unfolding the-image merge_call merge_lists past sums
the-merge = tt

-- a live store: its bytes, what they say, whether they are sound, how chains change; and freeze
unfoldable pub the-store : Unit {0}
unfolding the-plain-list the-image fresh_word fresh_words fresh_call fits fresh call after settle settled shrunk pagewise size_to settled_by_cells
    take_cell give_cell times bytes_of header entry lay_all lay_pages lay laid_at page_bytes counts_in_page read read_for chain_from chain_in code_in page_in
    spare_in sum_in sound fine tests within on_chains freeze_call
the-store = tt

-- a store brought back to sound
unfoldable pub the-repair : Unit {0}
unfolding the-store repair_call repairable repair_tests repaired lost_pages sieve kept_counts kept_chain is_kept kept_of passed keeps keep_tests behind unused
the-repair = tt
