-- The last entry of a page tells its bytes.
use Rattle.std.proofs.Common.{◌≡◌, ℕ, ◌+◌, Bool, true, false, List, [], ◌∷◌, ◌++◌, length, Option, Some, None, refl, sym, ◌∙◌, ap, arith}
use Rattle.std.proofs.lemmas.Grind.{common_steps}
use Rattle.std.proofs.lemmas.List.{append_assoc, append-nil, length-append}
use Rattle.std.proofs.lemmas.List.Folds.{list_any-append}
use Rattle.std.specs.List.{list_any}
use Rattle.st_base.specs.Page.{filled}
use Rattle.st_base.specs.declared.ids.FileId.{FileId}
use Rattle.st_base.specs.declared.ids.PageNo.{PageNo}
use Rattle.st_rules.specs.declared.log.LogEntry.{LogEntry}
use Rattle.st_rules.specs.FlatLog.{matters, changed, after, content, content_from, last, last_at, last_from}
use Rattle.st_model.specs.LastEntries.{IsLast, LastTells}

content_from-push : (page : List ℕ) (f : FileId) (p : PageNo) (es : List LogEntry) (e : LogEntry) →
    content_from page f p (es ++ e ∷ []) ≡ after f p e (content_from page f p es)
unfolding content_from
content_from-push page f p [] e = refl
content_from-push page f p (d ∷ es) e = content_from-push (after f p d page) f p es e

-- the bytes of a page after one more entry
pub content-push : (f : FileId) (p : PageNo) (es : List LogEntry) (e : LogEntry) → content (es ++ e ∷ []) f p ≡ after f p e (content es f p)
unfolding content
content-push f p es e = content_from-push (filled 0) f p es e

after_touching : (f : FileId) (p : PageNo) (e : LogEntry) (page : List ℕ) → matters f p e ≡ true → after f p e page ≡ changed e.change page
unfolding after
after_touching f p e page h = rw h refl

after_other : (f : FileId) (p : PageNo) (e : LogEntry) (page : List ℕ) → matters f p e ≡ false → after f p e page ≡ page
unfolding after
after_other f p e page h = rw h refl

-- one more entry that touches nothing
none_more : (q : LogEntry → Bool) (es : List LogEntry) (e : LogEntry) → list_any q es ≡ false → q e ≡ false → list_any q (es ++ e ∷ []) ≡ false
none_more q es e k h = list_any-append q es (e ∷ []) ∙ grind (arith, common_steps, k, h)

other_more : (es : List LogEntry) (f : FileId) (p : PageNo) (e : LogEntry) (found : Option ℕ) → matters f p e ≡ false → LastTells es f p found →
    LastTells (es ++ e ∷ []) f p found
other_more es f p e None h k = record {
  alone = none_more (matters f p) es e k.alone h;
  zeros = content-push f p es e ∙ after_other f p e _ h ∙ k.zeros;
}
other_more es f p e (Some n) h k = record {
  before = k.before;
  entry = k.entry;
  later = k.later ++ e ∷ [];
  split = ap (λ l. l ++ e ∷ []) k.split ∙ append_assoc k.before (k.entry ∷ k.later) (e ∷ []);
  number = k.number;
  touching = k.touching;
  alone = none_more (matters f p) k.later e k.alone h;
  bytes = content-push f p es e ∙ after_other f p e _ h ∙ k.bytes;
}

touching_more : (es : List LogEntry) (f : FileId) (p : PageNo) (e : LogEntry) → matters f p e ≡ true → IsLast (es ++ e ∷ []) f p (length es + 1)
touching_more es f p e h = record {
  before = es;
  entry = e;
  later = [];
  split = refl;
  number = refl;
  touching = h;
  alone = refl;
  bytes = content-push f p es e ∙ after_touching f p e _ h;
}

last_more : (es : List LogEntry) (f : FileId) (p : PageNo) (e : LogEntry) (found : Option ℕ) (b : Bool) → matters f p e ≡ b → LastTells es f p found →
    LastTells (es ++ e ∷ []) f p (last_at f p (length es + 1) e found)
unfolding last_at
last_more es f p e found true h k = rw h (touching_more es f p e h)
last_more es f p e found false h k = rw h (other_more es f p e found h k)

last_from_tells : (es rest : List LogEntry) (f : FileId) (p : PageNo) (n : ℕ) (found : Option ℕ) → n ≡ length es + 1 → LastTells es f p found →
    LastTells (es ++ rest) f p (last_from n found f p rest)
unfolding last_from
last_from_tells es [] f p n found at k = rw (append-nil es) k
last_from_tells es (e ∷ rest) f p n found at k =
    let more : LastTells (es ++ e ∷ []) f p (last_at f p n e found) = rw at (last_more es f p e found (matters f p e) refl k) in
    let next : n + 1 ≡ length (es ++ e ∷ []) + 1 = omega (arith, length-append es (e ∷ []), at) in
    rw (sym (append_assoc es (e ∷ []) rest)) (last_from_tells (es ++ e ∷ []) rest f p (n + 1) (last_at f p n e found) next more)

pub last_tells : (log : List LogEntry) (f : FileId) (p : PageNo) → LastTells log f p (last log f p)
unfolding last content content_from
last_tells log f p = last_from_tells [] log f p 1 None refl (record { alone = refl; zeros = refl })
