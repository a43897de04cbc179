-- The fields of messages are read exactly.
use Rattle.std.proofs.Common.{◌≡◌, ℕ, zero, suc, ◌-◌, ◌^◌, ◌<◌, ◌≤◌, Bool, true, false, ◌++◌, length, refl, sym, ap, ◌∙◌, arith}
use Rattle.std.specs.Prelude.{◌&&◌, ◌==◌, nat_le}
use Rattle.std.specs.List.{flat_map}
use Rattle.std.specs.Int.{w16, w32, w64}
use Rattle.std.proofs.lemmas.Bool.{lt-ltb, leb-true, and_parts}
use Rattle.st_base.specs.declared.mode.Mode.{Mode}
use Rattle.st_base.specs.declared.mode.Mode.TheVariants as modes
use Rattle.st_base.specs.Mode as base_modes
use Rattle.st_messages.specs.Ranges.{is_word16, is_word32, is_grant, is_ino, is_page, is_mode, has_length, is_whole_page, is_file, is_block, is_any_block, is_tag, is_lock_row, is_extent_row, is_lost_row, is_name_row, after_lock, after_extent, after_lost, after_name, are_rows, are_locks, are_extents, are_lost, are_names}
use Rattle.st_messages.specs.Kinds.{between, is_word64}
use Rattle.st_codec_fields.specs.Decoder.{◌>>=◌, seq, byte_at, text_at, word16_at, word32_at, word64_at, byte_in, word16_in, word32_in, ino_at, grant_at, page_at, mode_numbered, mode_at, name_at, whole_page_at, patch_bytes_at, file_at, block_at, any_block_at, tag_at, lock_row_at, extent_row_at, lost_row_at, is_directory, entry_at, name_row_at, rows_at, locks_at, extents_at, lost_at, names_at}
use Rattle.st_codec_fields.specs.Spelling.{byte, word16, word32, word64, mode, grant, name, file, block, tag, entry_number, lock_row, extent_row, lost_row, name_row, rows}
use Rattle.st_codec_fields.proofs.Exact.{Exact, respelled, pair_exact, triple_exact, renamed, checked_exact, byte_exact, number_exact, text_exact, counted_exact, rows_exact, wide16, wide32, wide64}

pub word16_exact : Exact word16_at word16 is_word16
unfolding word16_at word16
word16_exact = number_exact w16 (2 ^ 16) wide16

pub word32_exact : Exact word32_at word32 is_word32
unfolding word32_at word32
word32_exact = number_exact w32 (2 ^ 32) wide32

pub word64_exact : Exact word64_at word64 is_word64
unfolding word64_at word64
word64_exact = number_exact w64 (2 ^ 64) wide64

pub at_most : (least most n : ℕ) → between least most n ≡ true → n ≤ most
at_most least most n e = leb-true n most (and_parts (nat_le least n) (nat_le n most) e).1

pub at_least : (least most n : ℕ) → between least most n ≡ true → least ≤ n
at_least least most n e = leb-true least n (and_parts (nat_le least n) (nat_le n most) e).0

pub byte_in_exact : (least most : ℕ) → Exact (byte_in least most) byte (between least most)
unfolding byte_in
byte_in_exact least most = checked_exact byte_at byte (λ n. true) (between least most) byte_exact (λ n e. refl)

pub word16_in_exact : (least most : ℕ) → most < 2 ^ 16 → Exact (word16_in least most) word16 (between least most)
unfolding word16_in
word16_in_exact least most lt = checked_exact word16_at word16 is_word16 (between least most) word16_exact (λ n e. lt-ltb n (2 ^ 16) (omega (arith, at_most least most n e)))

pub word32_in_exact : (least most : ℕ) → most < 2 ^ 32 → Exact (word32_in least most) word32 (between least most)
unfolding word32_in
word32_in_exact least most lt = checked_exact word32_at word32 is_word32 (between least most) word32_exact (λ n e. lt-ltb n (2 ^ 32) (omega (arith, at_most least most n e)))

pub ino_exact : Exact ino_at word32 is_ino
ino_exact = word32_in_exact 1 4294967295 (omega arith)

pub grant_exact : Exact grant_at grant is_grant
unfolding grant_at
grant_exact = renamed word64_at word64 is_word64 (λ n. record { 0 = n }) (λ g. g.0) grant is_grant word64_exact (λ n e. (refl, e)) (λ g e. (refl, refl, e))

pub page_exact : (least : ℕ) → Exact (page_at least) (λ p. word32 p.0) (λ p. is_page least p.0)
unfolding page_at
page_exact least = renamed (word32_in least 1048575) word32 (between least 1048575) (λ n. record { 0 = n }) (λ p. p.0) (λ p. word32 p.0) (λ p. is_page least p.0) (word32_in_exact least 1048575 (omega arith)) (λ n e. (refl, e)) (λ p e. (refl, refl, e))

mode_again : (m : Mode) → mode_numbered (base_modes.number_of m) ≡ m
mode_again modes.None = refl
mode_again modes.S = refl
mode_again modes.X = refl

number_again : (n : ℕ) → n ≤ 2 → base_modes.number_of (mode_numbered n) ≡ n
number_again zero h = refl
number_again (suc zero) h = refl
number_again (suc (suc zero)) h = refl
number_again (suc (suc (suc n))) h = absurd (omega arith)

pub mode_exact : (least most : ℕ) → most ≤ 2 → Exact (mode_at least most) mode (is_mode least most)
unfolding mode_at
mode_exact least most le = renamed (byte_in least most) byte (between least most) mode_numbered base_modes.number_of mode (is_mode least most) (byte_in_exact least most)
    (λ n e. let same = number_again n (omega (arith, at_most least most n e)) in (ap byte same, ap (between least most) same ∙ e))
    (λ m e. (mode_again m, refl, e))

and_true : (b : Bool) → (b && true) ≡ b
and_true true = refl
and_true false = refl

text_fits : (n : ℕ) → Exact (text_at n) (λ t. t) (λ t. (length t == n) && true)
text_fits n = respelled (text_at n) (λ t. t) (λ t. t) (λ t. length t == n) (λ t. (length t == n) && true) (text_exact n) (λ t. refl) (λ t. and_true (length t == n))

pub name_exact : (least most : ℕ) → Exact (name_at least most) name (has_length least most)
unfolding name_at name
name_exact least most =
    respelled (λ bytes. byte_in least most bytes >>= λ n. text_at n.0 n.1) (λ t. byte (length t) ++ t) name (λ t. between least most (length t) && true) (has_length least most)
    (counted_exact (byte_in least most) byte (between least most) text_at length (λ t. t) (λ t. true) (byte_in_exact least most) text_fits) (λ t. refl) (λ t. sym (and_true (between least most (length t))))

pub whole_page_exact : Exact whole_page_at (λ t. t) is_whole_page
unfolding whole_page_at
whole_page_exact = text_exact 4096

pub patch_bytes_exact : (at : ℕ) → Exact (patch_bytes_at at) (λ t. word16 (length t) ++ t) (has_length 1 (4096 - at))
unfolding patch_bytes_at
patch_bytes_exact at =
    respelled (λ bytes. word16_in 1 (4096 - at) bytes >>= λ n. text_at n.0 n.1) (λ t. word16 (length t) ++ t) (λ t. word16 (length t) ++ t) (λ t. between 1 (4096 - at) (length t) && true) (has_length 1 (4096 - at))
    (counted_exact (word16_in 1 (4096 - at)) word16 (between 1 (4096 - at)) text_at length (λ t. t) (λ t. true) (word16_in_exact 1 (4096 - at) (omega arith)) text_fits) (λ t. refl) (λ t. sym (and_true (between 1 (4096 - at) (length t))))

pub file_exact : (least : ℕ) → Exact (file_at least) file (is_file least)
unfolding file_at file
file_exact least = renamed (seq (word16_in least 65535) (λ s. word32_in least 4294967295)) (λ p. word16 p.0 ++ word32 p.1) (λ p. between least 65535 p.0 && between least 4294967295 p.1)
    (λ t. record { server = record { 0 = t.0 }; ino = t.1 }) (λ f. (f.server.0, f.ino)) file (is_file least)
    (pair_exact (word16_in least 65535) (λ s. word32_in least 4294967295) word16 word32 (between least 65535) (λ s. between least 4294967295) (word16_in_exact least 65535 (omega arith)) (λ s. word32_in_exact least 4294967295 (omega arith)))
    (λ p e. (refl, e)) (λ f e. (refl, refl, e))

pub block_exact : Exact block_at block is_block
unfolding block_at block
block_exact = renamed (seq (word16_in 1 8) (λ d. word32_in 0 4095)) (λ p. word16 p.0 ++ word32 p.1) (λ p. between 1 8 p.0 && between 0 4095 p.1)
    (λ t. record { disk = record { 0 = t.0 }; block = t.1 }) (λ b. (b.disk.0, b.block)) block is_block
    (pair_exact (word16_in 1 8) (λ d. word32_in 0 4095) word16 word32 (between 1 8) (λ d. between 0 4095) (word16_in_exact 1 8 (omega arith)) (λ d. word32_in_exact 0 4095 (omega arith)))
    (λ p e. (refl, e)) (λ b e. (refl, refl, e))

pub any_block_exact : Exact any_block_at block is_any_block
unfolding any_block_at block
any_block_exact = renamed (seq word16_at (λ d. word32_at)) (λ p. word16 p.0 ++ word32 p.1) (λ p. is_word16 p.0 && is_word32 p.1)
    (λ t. record { disk = record { 0 = t.0 }; block = t.1 }) (λ b. (b.disk.0, b.block)) block is_any_block
    (pair_exact word16_at (λ d. word32_at) word16 word32 is_word16 (λ d. is_word32) word16_exact (λ d. word32_exact))
    (λ p e. (refl, e)) (λ b e. (refl, refl, e))

pub tag_exact : (least : ℕ) → Exact (tag_at least) tag (is_tag least)
unfolding tag_at tag
tag_exact least = renamed (seq (file_at least) (λ f. seq (page_at 0) (λ p. word64_at))) (λ p. file p.0 ++ word32 p.1.0.0 ++ word64 p.1.1) (λ p. is_file least p.0 && (is_page 0 p.1.0.0 && is_word64 p.1.1))
    (λ t. record { file = t.0; page = t.1.0; birth = t.1.1 }) (λ t. (t.file, (t.page, t.birth))) tag (is_tag least)
    (triple_exact (file_at least) (page_at 0) (λ p. word64_at) file (λ p. word32 p.0) word64 (is_file least) (λ p. is_page 0 p.0) (λ p. is_word64) (file_exact least) (page_exact 0) (λ p. word64_exact))
    (λ p e. (refl, e)) (λ t e. (refl, refl, e))

-- ---- rows

pub lock_row_exact : (least : ℕ) → Exact (lock_row_at least) lock_row (is_lock_row least)
unfolding lock_row_at lock_row
lock_row_exact least = renamed (seq (word32_in least 4294967295) (λ i. seq grant_at (λ g. mode_at 1 2))) (λ p. word32 p.0 ++ grant p.1.0 ++ mode p.1.1) (λ p. between least 4294967295 p.0 && (is_grant p.1.0 && is_mode 1 2 p.1.1))
    (λ t. (t.0, t.1.0, t.1.1)) (λ r. (r.0, (r.1, r.2))) lock_row (is_lock_row least)
    (triple_exact (word32_in least 4294967295) grant_at (λ g. mode_at 1 2) word32 grant mode (between least 4294967295) is_grant (λ g. is_mode 1 2) (word32_in_exact least 4294967295 (omega arith)) grant_exact (λ g. mode_exact 1 2 (omega arith)))
    (λ p e. (refl, e)) (λ r e. (refl, refl, e))

pub extent_row_exact : (least : ℕ) → Exact (extent_row_at least) extent_row (is_extent_row least)
unfolding extent_row_at extent_row
extent_row_exact least = renamed (seq (page_at least) (λ p. seq block_at (λ b. word64_at))) (λ p. word32 p.0.0 ++ block p.1.0 ++ word64 p.1.1) (λ p. is_page least p.0.0 && (is_block p.1.0 && is_word64 p.1.1))
    (λ t. record { page = t.0; at = t.1.0; birth = t.1.1 }) (λ r. (r.page, (r.at, r.birth))) extent_row (is_extent_row least)
    (triple_exact (page_at least) block_at (λ b. word64_at) (λ p. word32 p.0) block word64 (λ p. is_page least p.0) is_block (λ b. is_word64) (page_exact least) block_exact (λ b. word64_exact))
    (λ p e. (refl, e)) (λ r e. (refl, refl, e))

pub lost_row_exact : (least : ℕ) → Exact (lost_row_at least) lost_row (is_lost_row least)
unfolding lost_row_at lost_row
lost_row_exact least = renamed (seq (page_at least) (λ p. word64_at)) (λ p. word32 p.0.0 ++ word64 p.1) (λ p. is_page least p.0.0 && is_word64 p.1)
    (λ t. record { page = t.0; command = t.1 }) (λ r. (r.page, r.command)) lost_row (is_lost_row least)
    (pair_exact (page_at least) (λ p. word64_at) (λ p. word32 p.0) word64 (λ p. is_page least p.0) (λ p. is_word64) (page_exact least) (λ p. word64_exact))
    (λ p e. (refl, e)) (λ r e. (refl, refl, e))

entry_again : (d : Bool) → is_directory (entry_number d) ≡ d
entry_again true = refl
entry_again false = refl

entry_numbered : (n : ℕ) → 1 ≤ n → n ≤ 2 → entry_number (is_directory n) ≡ n
entry_numbered zero h k = absurd (omega arith)
entry_numbered (suc zero) h k = refl
entry_numbered (suc (suc zero)) h k = refl
entry_numbered (suc (suc (suc n))) h k = absurd (omega arith)

entry_in : (d : Bool) → between 1 2 (entry_number d) ≡ true
entry_in true = refl
entry_in false = refl

pub entry_exact : Exact entry_at (λ d. byte (entry_number d)) (λ d. true)
unfolding entry_at
entry_exact = renamed (byte_in 1 2) byte (between 1 2) is_directory entry_number (λ d. byte (entry_number d)) (λ d. true) (byte_in_exact 1 2)
    (λ n e. (ap byte (entry_numbered n (at_least 1 2 n e) (at_most 1 2 n e)), refl)) (λ d e. (entry_again d, refl, entry_in d))

pub name_row_exact : (least : ℕ) → Exact (name_row_at least) name_row (is_name_row least)
unfolding name_row_at name_row
name_row_exact least = renamed (seq (word32_in least 4294967295) (λ i. seq entry_at (λ k. name_at 1 64))) (λ p. word32 p.0 ++ byte (entry_number p.1.0) ++ name p.1.1) (λ p. between least 4294967295 p.0 && (true && has_length 1 64 p.1.1))
    (λ t. record { ino = t.0; directory = t.1.0; name = t.1.1 }) (λ r. (r.ino, (r.directory, r.name))) name_row (is_name_row least)
    (triple_exact (word32_in least 4294967295) entry_at (λ k. name_at 1 64) word32 (λ d. byte (entry_number d)) name (between least 4294967295) (λ d. true) (λ d. has_length 1 64) (word32_in_exact least 4294967295 (omega arith)) entry_exact (λ k. name_exact 1 64))
    (λ p e. (refl, e)) (λ r e. (refl, refl, e))

pub locks_exact : Exact locks_at (rows lock_row) are_locks
unfolding locks_at are_locks
locks_exact = counted_exact (word16_in 0 1024) word16 (between 0 1024) (λ n. rows_at lock_row_at after_lock n 1) length (flat_map lock_row) (are_rows is_lock_row after_lock 1) (word16_in_exact 0 1024 (omega arith)) (rows_exact lock_row_at lock_row is_lock_row after_lock lock_row_exact 1)

pub extents_exact : Exact extents_at (rows extent_row) are_extents
unfolding extents_at are_extents
extents_exact = counted_exact (word16_in 0 64) word16 (between 0 64) (λ n. rows_at extent_row_at after_extent n 0) length (flat_map extent_row) (are_rows is_extent_row after_extent 0) (word16_in_exact 0 64 (omega arith)) (rows_exact extent_row_at extent_row is_extent_row after_extent extent_row_exact 0)

pub lost_exact : Exact lost_at (rows lost_row) are_lost
unfolding lost_at are_lost
lost_exact = counted_exact (word16_in 1 1024) word16 (between 1 1024) (λ n. rows_at lost_row_at after_lost n 0) length (flat_map lost_row) (are_rows is_lost_row after_lost 0) (word16_in_exact 1 1024 (omega arith)) (rows_exact lost_row_at lost_row is_lost_row after_lost lost_row_exact 0)

pub names_exact : Exact names_at (rows name_row) are_names
unfolding names_at are_names
names_exact = counted_exact (word16_in 0 256) word16 (between 0 256) (λ n. rows_at name_row_at after_name n 1) length (flat_map name_row) (are_rows is_name_row after_name 1) (word16_in_exact 0 256 (omega arith)) (rows_exact name_row_at name_row is_name_row after_name name_row_exact 1)
