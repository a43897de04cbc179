-- A patch that an application may ask lies in its page.
use Rattle.std.proofs.Common.{◌≡◌, ℕ, ◌+◌, ◌-◌, ◌≤◌, true, List, length, arith}
use Rattle.std.specs.Prelude.{nat_le, ◌&&◌}
use Rattle.std.proofs.lemmas.Bool.{and_parts, leb-true}
use Rattle.st_base.specs.declared.ids.FileId.{FileId}
use Rattle.st_base.specs.declared.ids.PageNo.{PageNo}
use Rattle.st_messages.specs.declared.ask.Ask.TheVariants as asks
use Rattle.st_messages.specs.Ranges.{has_length, is_ask, is_file, is_page}
use Rattle.st_messages.specs.Kinds.{between}

pub patch_range : (f : FileId) (p : PageNo) (at : ℕ) (bytes : List ℕ) → is_ask (asks.Patch f p at bytes) ≡ true → at + length bytes ≤ 4096
unfolding is_ask
patch_range f p at bytes h =
    let q = and_parts (is_file 1 f) (is_page 0 p.0 && (between 0 4095 at && has_length 1 (4096 - at) bytes)) h in
    let r = and_parts (is_page 0 p.0) (between 0 4095 at && has_length 1 (4096 - at) bytes) q.1 in
    let s = and_parts (between 0 4095 at) (has_length 1 (4096 - at) bytes) r.1 in
    let a : at ≤ 4095 = leb-true _ _ (and_parts (nat_le 0 at) (nat_le at 4095) s.0).1 in
    let b : length bytes ≤ 4096 - at = leb-true _ _ (and_parts (nat_le 1 (length bytes)) (nat_le (length bytes) (4096 - at)) s.1).1 in
    omega arith
