-- What stays beside the entries as they are, when one more comes and when they are marked.
use Rattle.std.proofs.Common.{◌≡◌, ℕ, suc, ◌+◌, Bool, true, false, cond, if◌then◌else◌, List, [], ◌∷◌, ◌++◌, length, refl, sym, ap, ◌∙◌, arith}
use Rattle.std.specs.Prelude.{◌&&◌, ◌==◌, unwrap_or, Option, Some}
use Rattle.st_base.specs.declared.ids.ClientId.{ClientId}
use Rattle.st_base.specs.declared.ids.FileId.{FileId}
use Rattle.st_base.specs.declared.ids.PageNo.{PageNo}
use Rattle.st_rules.specs.declared.log.Fate.{Fate}
use Rattle.st_rules.specs.declared.log.LogOwner.{LogOwner}
use Rattle.st_rules.specs.declared.log.LogEntry.{LogEntry}
use Rattle.st_rules.specs.FlatLog.{is_pending}
use Rattle.st_rules.specs.Events.{is_entry_of, latest, latest_from, latest_at}
use Rattle.st_model.specs.LogParts.{same_client_page, client_page}
use Rattle.st_model.specs.Walks.{mark_from, pending_from}

-- the places with one more entry
pub pending_more : (n : ℕ) (es : List LogEntry) (e : LogEntry) → pending_from n (es ++ e ∷ []) ≡ pending_from n es ++ (if is_pending e.fate then (n + length es) ∷ [] else [])
pending_more n [] e = ap (λ k. if is_pending e.fate then k ∷ [] else []) (let s : n ≡ n + 0 = omega arith in s)
pending_more n (x ∷ es) e =
    let last : ℕ → List ℕ = λ k. if is_pending e.fate then k ∷ [] else [] in
    let more : pending_from (n + 1) (es ++ e ∷ []) ≡ pending_from (n + 1) es ++ last (n + suc (length es)) =
    pending_more (n + 1) es e ∙ ap (λ k. pending_from (n + 1) es ++ last k) (let s : n + 1 + length es ≡ n + suc (length es) = omega arith in s) in
    put_first (is_pending x.fate) n (pending_from (n + 1) es) (last (n + suc (length es))) (pending_from (n + 1) (es ++ e ∷ [])) more
  where
    put_first : (b : Bool) (n : ℕ) (ks ls all : List ℕ) → all ≡ ks ++ ls → (if b then n ∷ all else all) ≡ (if b then n ∷ ks else ks) ++ ls
    put_first true n ks ls all h = ap (λ l. n ∷ l) h
    put_first false n ks ls all h = h

latest_more : (number before : ℕ) (c : ClientId) (f : FileId) (p : PageNo) (e : LogEntry) (es : List LogEntry) →
    latest_from number before c f p (es ++ e ∷ []) ≡ (if is_entry_of c f p e then number + length es else latest_from number before c f p es)
unfolding latest_from latest_at
latest_more number before c f p e [] = ap (λ n. if is_entry_of c f p e then n else before) (let s : number ≡ number + 0 = omega arith in s)
latest_more number before c f p e (x ∷ es) =
    latest_more (number + 1) (latest_at c f p number before x) c f p e es
    ∙ ap (λ n. if is_entry_of c f p e then n else latest_from (number + 1) (latest_at c f p number before x) c f p es) (let s : number + 1 + length es ≡ number + suc (length es) = omega arith in s)

at_cond : (b : Bool) (v : ℕ) (x : Option ℕ) → unwrap_or (cond b (Some v) x) 0 ≡ (if b then v else unwrap_or x 0)
at_cond true v x = refl
at_cond false v x = refl

and_assoc : (x y z w : Bool) → (x && (y && (z && w))) ≡ (x && ((y && z) && w))
and_assoc true true z w = refl
and_assoc true false z w = refl
and_assoc false y z w = refl

key_tells : (o : LogOwner) (c : ClientId) (f : FileId) (p : PageNo) (e : LogEntry) → e.of ≡ o → same_client_page (client_page o.client o.file o.page) (client_page c f p) ≡ is_entry_of c f p e
key_tells o c f p e q =
    and_assoc (o.client.0 == c.0) (o.file.server.0 == f.server.0) (o.file.ino == f.ino) (o.page.0 == p.0)
    ∙ ap (λ (w : LogOwner). (w.client.0 == c.0) && (((w.file.server.0 == f.server.0) && (w.file.ino == f.ino)) && (w.page.0 == p.0))) (sym q)

-- the index with one more entry
pub index_more : (o : LogOwner) (c : ClientId) (f : FileId) (p : PageNo) (e : LogEntry) (es : List LogEntry) (old new : Option ℕ) (number : ℕ) →
    e.of ≡ o → number ≡ length es + 1 → new ≡ cond (same_client_page (client_page o.client o.file o.page) (client_page c f p)) (Some number) old → unwrap_or old 0 ≡ latest es c f p →
    unwrap_or new 0 ≡ latest (es ++ e ∷ []) c f p
unfolding latest
index_more o c f p e es old new number q n u h =
    ap (λ x. unwrap_or x 0) u ∙ at_cond (same_client_page (client_page o.client o.file o.page) (client_page c f p)) number old
    ∙ (λ i. if key_tells o c f p e q i then (n ∙ (let s : length es + 1 ≡ 1 + length es = omega arith in s)) i else h i)
    ∙ sym (latest_more 1 0 c f p e es)

-- marks change no owner
latest_marked : (next : ℕ → LogOwner → Fate) (k number before : ℕ) (c : ClientId) (f : FileId) (p : PageNo) (es : List LogEntry) →
    latest_from number before c f p (mark_from next k es) ≡ latest_from number before c f p es
unfolding latest_from latest_at
latest_marked next k number before c f p [] = refl
latest_marked next k number before c f p (e ∷ es) = latest_marked next (k + 1) (number + 1) (latest_at c f p number before e) c f p es

pub index_marked : (next : ℕ → LogOwner → Fate) (c : ClientId) (f : FileId) (p : PageNo) (es : List LogEntry) → latest (mark_from next 1 es) c f p ≡ latest es c f p
unfolding latest
index_marked next c f p es = latest_marked next 1 1 0 c f p es
