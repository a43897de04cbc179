-- The operations of a tick at a client: the pass answers or fetches something exactly if an operation is due.
use Rattle.st_lemmas.proofs.Words
use Words.{◌≡◌, ℕ, ◌+◌, ◌<◌, Bool, true, false, ◌&&◌, ◌||◌, not, List, [], ◌∷◌, ◌++◌, refl, sym, ap, ◌∙◌, subst, arith, append_assoc, append-nil, cond, length, list_any, Option, Some, None, is_some, Result, Ok, Err}
use Words.{Ask, FileId, KnownExtent, MappedBlock, Note, Operation, PageNo, Stamp, WriteRefusal}
use Words.answers
use Words.asks
use Words.commands
use Words.io
use Words.modes
use Words.notes
use Words.outputs
use Words.ClientPages as pages
use Words.ClientPages.{Pages, is_mapped, known_of, mapping_at, mapping_of}
use Words.ClientPasses.{answer, change, change_by, change_page, fetch, fetch_at, fetch_mapped, holds, may_write, operate, operate_by, operate_each, operate_on, operate_under, operations, patch, patch_at}
use Words.ClientPasses.{patch_bytes, quiesce, read, read_at, read_cached, read_known, read_uncached, serve, serve_open, submit_command, submit_read, sync, write}
use Words.ClientState.{ClientSession, Turn, file_of, is_of, is_open_file, is_sent, is_serving, keep, with_operations}
use Rattle.st_client_due.specs.ClientDue.{is_being_fetched, is_cached, is_fetched, is_found, is_patched, is_read, is_served, is_served_open}
use Rattle.st_laws_due.proofs.Advances.{DoesIf, IsAhead, always, and_does, either_does, folds_by, if_does, never, unless_does}
use Rattle.st_laws_due.proofs.Passes.{fold_steps, one_longer}

-- the number of outputs so far
abbrev pub said : Turn → ℕ
said t = length t.out

-- the number of demands on a session's locks
abbrev pub demands : Option ClientSession → ℕ
demands None = 0
demands (Some s) = length s.locks.demanded

-- the number of demands at a server
abbrev pub demanded : Turn → ℕ
demanded t = demands t.here.session

-- a pass at a server does something exactly if a test passes
abbrev pub Does : Bool → Turn → Turn → Type 0
Does b t u = DoesIf said demanded b t u

-- one output more
abbrev pub Speaks : Turn → Turn → Type 0
Speaks t u = IsAhead said demanded t u

answer_speaks : (o : Operation) (a : Words.AppAnswer) (t : Turn) → Speaks (keep o t) (answer o a t)
answer_speaks o a t = let l = one_longer t.out (outputs.Answer o.op a) in omega (arith, l)

sync_does : (t : Turn) (o : Operation) (f : FileId) → Does (pages.is_hard t.here.store f.ino) (keep o t) (sync t o f)
unfolding sync
sync_does t o f = if_does said demanded (pages.is_hard t.here.store f.ino) (keep o t) (answer o answers.Hard t) (answer_speaks o answers.Hard t)

quiesce_does : (t : Turn) (o : Operation) → Does (not (is_sent o)) (keep o t) (quiesce t o)
unfolding quiesce
quiesce_does t o = unless_does said demanded (is_sent o) (keep o t) (answer o answers.Quiesced t) (answer_speaks o answers.Quiesced t)

-- A page is changed, or too many others are dirty: each is an answer.
change_speaks : (t : Turn) (o : Operation) (f : FileId) (p : PageNo) (n : Note) (r : Result Pages WriteRefusal) → Speaks (keep o t) (change_by t o f p n r)
unfolding change_by change
change_speaks t o f p n (Ok ps) =
    let a = one_longer t.out (outputs.Note n) in
    let b = one_longer (t.out ++ outputs.Note n ∷ []) (outputs.Answer o.op answers.Written) in
    omega (arith, a, b)
change_speaks t o f p n (Err r) = answer_speaks o answers.DirtyFull t

page_speaks : (t : Turn) (o : Operation) (f : FileId) (p : PageNo) (bytes : List ℕ) (n : Note) → Speaks (keep o t) (change_page t o f p bytes n)
unfolding change_page
page_speaks t o f p bytes n = change_speaks t o f p n (pages.write t.here.store.pages f.ino p bytes)

write_does : (t : Turn) (s : ClientSession) (o : Operation) (f : FileId) (p : PageNo) (bytes : List ℕ) →
    Does (may_write t s f p) (keep o t) (write t s o f p bytes)
unfolding write
write_does t s o f p bytes =
    if_does said demanded (may_write t s f p) (keep o t) (change_page t o f p bytes (notes.Accepted f p bytes))
    (page_speaks t o f p bytes (notes.Accepted f p bytes))

-- A page is fetched if it is mapped and isn't being read.
fetch_does : (t : Turn) (o : Operation) (f : FileId) (p : PageNo) → Does (is_fetched t f p) (keep o t) (fetch t o f p)
unfolding fetch fetch_at fetch_mapped submit_read submit_command
fetch_does t o f p = go (mapping_of t.here.store.extents f.ino p)
  where
    by : (b : Bool) (m : MappedBlock) → Does (not b) (keep o t) (keep o (cond b t (submit_read t f.ino p m)))
    by true m = never said demanded (keep o t)
    by false m = always said demanded (keep o t) (keep o (submit_read t f.ino p m))
        (let l = one_longer t.out (outputs.Submit t.next_command m.at (commands.Read m.at)) in omega (arith, l))

    go : (m : Option MappedBlock) → Does (is_some m && not (is_being_fetched t f p)) (keep o t) (keep o (fetch_at t f p m))
    go None = never said demanded (keep o t)
    go (Some m) = by (is_being_fetched t f p) m

patch_at_does : (t : Turn) (o : Operation) (f : FileId) (p : PageNo) (at : ℕ) (bytes : List ℕ) (c : Option (List ℕ)) →
    Does (is_some c || is_fetched t f p) (keep o t) (patch_at t o f p at bytes c)
unfolding patch_at patch_bytes
patch_at_does t o f p at bytes None = fetch_does t o f p
patch_at_does t o f p at bytes (Some old) =
    always said demanded (keep o t) (patch_bytes t o f p at bytes old) (page_speaks t o f p (Words.FlatLog.overlay at bytes old) (notes.Patched f p at bytes))

patch_does : (t : Turn) (s : ClientSession) (o : Operation) (f : FileId) (p : PageNo) (at : ℕ) (bytes : List ℕ) →
    Does (is_patched t s f p) (keep o t) (patch t s o f p at bytes)
unfolding patch
patch_does t s o f p at bytes =
    and_does said demanded (may_write t s f p) (is_cached t f p || is_fetched t f p) (keep o t)
    (patch_at t o f p at bytes (pages.cached t.here.store.pages f.ino p))
    (patch_at_does t o f p at bytes (pages.cached t.here.store.pages f.ino p))

-- A page that is known is read as zeros, or fetched.
known_does : (t : Turn) (o : Operation) (f : FileId) (p : PageNo) (e : KnownExtent) (m : Option MappedBlock) → mapping_of t.here.store.extents f.ino p ≡ m →
    Does (not (is_some m && is_being_fetched t f p)) (keep o t) (read_known t o f p e m)
unfolding read_known
known_does t o f p e None q = always said demanded (keep o t) (answer o (answers.Read (Words.Page.filled 0)) t)
    (answer_speaks o (answers.Read (Words.Page.filled 0)) t)
known_does t o f p e (Some m) q =
    subst (λ x. Does (is_some x && not (is_being_fetched t f p)) (keep o t) (fetch t o f p)) q (fetch_does t o f p)

uncached_does : (t : Turn) (o : Operation) (f : FileId) (p : PageNo) (k : Option KnownExtent) → known_of t.here.store.extents f.ino p ≡ k →
    Does (is_found t f p k) (keep o t) (read_uncached t o f p k)
unfolding read_uncached
uncached_does t o f p None q = never said demanded (keep o t)
uncached_does t o f p (Some e) q = known_does t o f p e e.mapping (ap mapping_at q)

cached_does : (t : Turn) (o : Operation) (f : FileId) (p : PageNo) (c : Option (List ℕ)) →
    Does (is_some c || is_found t f p (known_of t.here.store.extents f.ino p)) (keep o t) (read_at t o f p c)
unfolding read_at read_cached
cached_does t o f p None = uncached_does t o f p (known_of t.here.store.extents f.ino p) refl
cached_does t o f p (Some bytes) = always said demanded (keep o t) (read_cached t o f p bytes)
    (let l = one_longer t.out (outputs.Answer o.op (answers.Read bytes)) in omega (arith, l))

read_does : (t : Turn) (s : ClientSession) (o : Operation) (f : FileId) (p : PageNo) → Does (is_read t s f p) (keep o t) (read t s o f p)
unfolding read
read_does t s o f p =
    and_does said demanded (holds s modes.S f) (is_cached t f p || is_found t f p (known_of t.here.store.extents f.ino p)) (keep o t)
    (read_at t o f p (pages.cached t.here.store.pages f.ino p)) (cached_does t o f p (pages.cached t.here.store.pages f.ino p))

-- Serving.
serve_open_does : (t : Turn) (s : ClientSession) (o : Operation) (ask : Ask) → Does (is_served_open t s ask) (keep o t) (serve_open t s o ask)
unfolding serve_open
serve_open_does t s o (asks.Write f p bytes) = write_does t s o f p bytes
serve_open_does t s o (asks.Patch f p at bytes) = patch_does t s o f p at bytes
serve_open_does t s o (asks.Read f p) = read_does t s o f p
serve_open_does t s o (asks.Sync f) = never said demanded (keep o t)
serve_open_does t s o (asks.Cut f p) = never said demanded (keep o t)
serve_open_does t s o (asks.Name server ask) = never said demanded (keep o t)

serve_does : (all : List Operation) (t : Turn) (s : ClientSession) (o : Operation) → Does (is_served all t s o.ask) (keep o t) (serve all t s o)
unfolding serve
serve_does all t s o =
    and_does said demanded (is_open_file all t.here.server s (file_of o.ask)) (is_served_open t s o.ask) (keep o t) (serve_open t s o o.ask)
    (serve_open_does t s o o.ask)

-- what is due of an operation, with a session
abbrev pub is_answered : List Operation → Turn → Stamp → Operation → Option ClientSession → Bool
is_answered all t now o None = false
is_answered all t now o (Some s) = cond (is_serving t.config s now) (is_served all t s o.ask) (not (is_sent o))

-- of a sync, or another ask
abbrev pub is_ended : List Operation → Turn → Stamp → Operation → Ask → Bool
is_ended all t now o (asks.Sync f) = pages.is_hard t.here.store f.ino
is_ended all t now o ask = is_answered all t now o t.here.session

-- of an operation
abbrev pub is_operated : List Operation → Stamp → Operation → Turn → Bool
is_operated all now o t = is_of t.here.server o && is_ended all t now o o.ask

operate_by_does : (all : List Operation) (t : Turn) (now : Stamp) (o : Operation) (s : Option ClientSession) →
    Does (is_answered all t now o s) (keep o t) (operate_by all t now o s)
unfolding operate_by operate_under
operate_by_does all t now o None = never said demanded (keep o t)
operate_by_does all t now o (Some s) =
    either_does said demanded (is_serving t.config s now) (is_served all t s o.ask) (not (is_sent o)) (keep o t) (serve all t s o) (quiesce t o)
    (serve_does all t s o) (quiesce_does t o)

operate_on_does : (all : List Operation) (t : Turn) (now : Stamp) (o : Operation) (ask : Ask) →
    Does (is_ended all t now o ask) (keep o t) (operate_on all t now o ask)
unfolding operate_on
operate_on_does all t now o (asks.Sync f) = sync_does t o f
operate_on_does all t now o (asks.Write f p bytes) = operate_by_does all t now o t.here.session
operate_on_does all t now o (asks.Patch f p at bytes) = operate_by_does all t now o t.here.session
operate_on_does all t now o (asks.Read f p) = operate_by_does all t now o t.here.session
operate_on_does all t now o (asks.Cut f p) = operate_by_does all t now o t.here.session
operate_on_does all t now o (asks.Name server ask) = operate_by_does all t now o t.here.session

-- an operation is done, or stays
abbrev pub operate_step : List Operation → Stamp → Operation → Turn → Turn
operate_step all now o t = operate all t now o

operate_does : (all : List Operation) (now : Stamp) (o : Operation) (t : Turn) → Does (is_operated all now o t) (keep o t) (operate_step all now o t)
unfolding operate
operate_does all now o t =
    and_does said demanded (is_of t.here.server o) (is_ended all t now o o.ask) (keep o t) (operate_on all t now o o.ask) (operate_on_does all t now o o.ask)

operates_fold : (all : List Operation) (now : Stamp) (os : List Operation) (t : Turn) → fold_steps (operate_step all now) os t ≡ operate_each all now os t
unfolding operate_each
operates_fold all now [] t = refl
operates_fold all now (o ∷ os) t = operates_fold all now os (operate_step all now o t)

kept_fold : (os : List Operation) (t : Turn) → fold_steps keep os t ≡ with_operations (t.operations ++ os) t
kept_fold [] t = ap (λ (xs : List Operation). with_operations xs t) (sym (append-nil t.operations))
kept_fold (o ∷ os) t = kept_fold os (keep o t) ∙ ap (λ (xs : List Operation). with_operations xs t) (append_assoc t.operations (o ∷ []) os)

-- what is due of the operations
abbrev pub operations_due : Stamp → Turn → Bool
operations_due now t = list_any (λ o. is_operated t.operations now o t) t.operations

pub operations_does : (now : Stamp) (t : Turn) → Does (operations_due now t) t (operations now t)
unfolding operations
operations_does now t =
    let os = t.operations in
    let begun = with_operations [] t in
    subst (λ u. Does (operations_due now t) u (operate_each os now os begun)) (kept_fold os begun)
    (subst (Does (operations_due now t) (fold_steps keep os begun)) (operates_fold os now os begun)
    (folds_by said demanded (operate_step os now) keep (is_operated os now) (operate_does os now) (λ o p q l. l) (λ o p q. refl) os begun))
