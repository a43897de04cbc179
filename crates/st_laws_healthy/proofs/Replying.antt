-- A server replies to each request that is a session's next one, with a reply that fits, and keeps it; and it replies to the last one with the kept reply.
use Rattle.st_lemmas.proofs.Words
use Words.{◌≡◌, ℕ, ◌⊎◌, true, List, [], ◌∷◌, ◌++◌, refl, sym, ap, ◌∙◌, subst, inl, inr, Option, Some, None, Result, Ok, Err, eq-eqb, GrantNo, PageNo, Stamp}
use Words.{Mode, Header, Body, AllocateRefusal, AcquireRefusal, Verdict, Taken, Output, Epoch, ServerId}
use Words.modes
use Words.bodies as bd
use Words.why
use Words.wants
use Words.verdicts
use Words.Extents as extents
use Words.Extents.{Extents}
use Words.Locks as locks
use Words.Server as sv
use Words.Server.{Replied, ServerTurn, serve}
use Words.takes
use Words.Keys.{server_node}
use Words.Sessions as sessions
use Words.notes
use Words.outputs
use Words.Lists.{Has}
use Words.Tables.{cond_either}
use Rattle.st_laws_healthy.proofs.Naming.{gets_reply_name}
use Rattle.st_laws_healthy.proofs.Replies.{Counts, GetsReply, counts_for, gives, is_served}

-- the last of a list
has_end : {A : Type 0} (xs : List A) (x y : A) → x ≡ y → Has x (xs ++ y ∷ [])
has_end [] x y e = inl e
has_end (z ∷ zs) x y e = inr (has_end zs x y e)

module _ (now : Stamp) (h : Header) where
  gets_reply_acquire : (t : ServerTurn) (ino : ℕ) (mode : Mode) → GetsReply now h t (bd.Acquire ino mode) (sv.acquire t now h ino mode)
  unfolding sv.acquire sv.acquire_lock sv.acquire_by sv.no_file
  gets_reply_acquire t ino mode =
      cond_either (GetsReply now h t (bd.Acquire ino mode)) (sv.is_file t ino) (sv.acquire_lock t now h ino mode) (sv.no_file t ino)
      (λ e. go (locks.acquire t.state.locks (sv.sender h) (sv.life_in h) ino mode (sv.grants_now t now)))
      (λ e. gives now h t t (bd.Acquire ino mode) (bd.Nack why.NoFile ino 0) refl refl refl refl refl)
    where
      by : (v : Verdict) → counts_for (bd.Acquire ino mode) (sv.verdict_body ino mode v) ≡ true
      by (verdicts.Granted g held) = eq-eqb ino ino refl
      by (verdicts.Queued cs) = eq-eqb ino ino refl

      go : (r : Result locks.Acquired AcquireRefusal) → GetsReply now h t (bd.Acquire ino mode) (sv.acquire_by t ino mode r)
      go (Ok a) = gives now h t (sv.with_locks a.locks t) (bd.Acquire ino mode) (sv.verdict_body ino mode a.verdict) refl refl refl refl (by a.verdict)
      go (Err r) = gives now h t t (bd.Acquire ino mode) (bd.Nack why.TooManyLocks t.state.locks.limit 0) refl refl refl refl refl

  gets_reply_map : (t : ServerTurn) (ino : ℕ) (g : GrantNo) (p : PageNo) → GetsReply now h t (bd.Map ino g p) (sv.map t h ino g p)
  unfolding sv.map sv.map_held sv.map_page sv.not_holder sv.no_file
  gets_reply_map t ino g p =
      cond_either (GetsReply now h t (bd.Map ino g p)) (sv.is_file t ino) (sv.map_held t h ino g p) (sv.no_file t ino)
      (λ e. cond_either (GetsReply now h t (bd.Map ino g p)) (sv.holds t h ino g modes.S) (sv.map_page t ino p) (sv.not_holder t ino g)
      (λ e. record { counts = eq-eqb ino ino refl; id = refl; epoch = refl; sessions = refl; out = inl refl })
      (λ e. record { counts = refl; id = refl; epoch = refl; sessions = refl; out = inl refl }))
      (λ e. record { counts = refl; id = refl; epoch = refl; sessions = refl; out = inl refl })

  gets_reply_allocate : (t : ServerTurn) (ino : ℕ) (g : GrantNo) (p : PageNo) (n : ℕ) → GetsReply now h t (bd.Allocate ino g p n) (sv.allocate t h ino g p n)
  unfolding sv.allocate sv.allocate_held sv.allocate_pages sv.allocate_by sv.with_extents_told sv.not_holder sv.no_file
  gets_reply_allocate t ino g p n =
      cond_either (GetsReply now h t (bd.Allocate ino g p n)) (sv.is_file t ino) (sv.allocate_held t h ino g p n) (sv.no_file t ino)
      (λ e. cond_either (GetsReply now h t (bd.Allocate ino g p n)) (sv.holds t h ino g modes.X) (sv.allocate_pages t ino p n) (sv.not_holder t ino g)
      (λ e. go (extents.allocate t.state.stable.extents (sv.file t ino) p n)) (λ e. record
      { counts = refl; id = refl; epoch = refl; sessions = refl; out = inl refl }))
      (λ e. record { counts = refl; id = refl; epoch = refl; sessions = refl; out = inl refl })
    where
      go : (r : Result Extents AllocateRefusal) → GetsReply now h t (bd.Allocate ino g p n) (sv.allocate_by t ino p n r)
      go (Ok x) = record { counts = eq-eqb ino ino refl; id = refl; epoch = refl; sessions = refl; out = inl refl }
      go (Err (wants.NoSpace free asked)) = record { counts = refl; id = refl; epoch = refl; sessions = refl; out = inl refl }

  gets_reply_cut : (t : ServerTurn) (ino : ℕ) (g : GrantNo) (p : PageNo) → GetsReply now h t (bd.Cut ino g p) (sv.cut t h ino g p)
  unfolding sv.cut sv.cut_held sv.cut_from sv.cut_pages sv.not_holder sv.no_file
  gets_reply_cut t ino g p =
      cond_either (GetsReply now h t (bd.Cut ino g p)) (sv.is_file t ino) (sv.cut_held t h ino g p) (sv.no_file t ino)
      (λ e. cond_either (GetsReply now h t (bd.Cut ino g p)) (sv.holds t h ino g modes.X) (sv.cut_from t ino p) (sv.not_holder t ino g)
      (λ e. record { counts = refl; id = refl; epoch = refl; sessions = refl; out = inr (notes.CutDone (sv.file t ino) p, refl) })
      (λ e. record { counts = refl; id = refl; epoch = refl; sessions = refl; out = inl refl }))
      (λ e. record { counts = refl; id = refl; epoch = refl; sessions = refl; out = inl refl })

  -- each request that a session serves gets a reply that counts for it
  pub rule_replies : (t : ServerTurn) (b : Body) → is_served b ≡ true → GetsReply now h t b (sv.rule t now h b)
  unfolding sv.rule sv.keep_alive sv.released sv.released_by
  rule_replies t bd.KeepAlive e = record { counts = refl; id = refl; epoch = refl; sessions = refl; out = inl refl }
  rule_replies t (bd.Acquire ino mode) e = gets_reply_acquire t ino mode
  rule_replies t (bd.Released ino g to) e = record { counts = refl; id = refl; epoch = refl; sessions = refl; out = inl refl }
  rule_replies t (bd.Map ino g p) e = gets_reply_map t ino g p
  rule_replies t (bd.Allocate ino g p n) e = gets_reply_allocate t ino g p n
  rule_replies t (bd.Cut ino g p) e = gets_reply_cut t ino g p
  rule_replies t (bd.Name op) e = gets_reply_name now h t op
  rule_replies t b e = cc

  -- a reply to the request is among these outputs
  pub record IsAnswered (t : ServerTurn) (b : Body) (os : List Output) : Type 0 where
    pub reply : Body
    pub counts : counts_for b reply ≡ true
    pub sent : Has (outputs.Send (record { header = sv.reply_header t.state h; body = reply })) os

  replied : (t u : ServerTurn) (b x : Body) → u.state.id ≡ t.state.id → u.state.stable.epoch ≡ t.state.stable.epoch → counts_for b x ≡ true →
      IsAnswered t b (sv.reply u h x).out
  unfolding sv.reply
  replied t u b x i e c =
      record {
        reply = x;
        counts = c;
        sent = has_end u.out (outputs.Send (record { header = sv.reply_header t.state h; body = x }))
            (outputs.Send (record { header = sv.reply_header u.state h; body = x }))
            (ap (λ (z : ServerId). outputs.Send (record {
              header = record {
                from = server_node z;
                to = h.from;
                life = h.life;
                epoch = t.state.stable.epoch.0;
                number = h.number;
                stamp = h.stamp;
              };
              body = x;
            })) (sym i)
            ∙ ap (λ (z : Epoch). outputs.Send (record {
              header = record {
                from = server_node u.state.id;
                to = h.from;
                life = h.life;
                epoch = z.0;
                number =
                    h.number;
                stamp = h.stamp;
              };
              body = x;
            })) (sym e));
      }

  served : (t : ServerTurn) (b : Body) (a : Replied) → GetsReply now h t b a → IsAnswered t b (serve h a).out
  unfolding serve sv.keep sv.keep_and_reply
  served t b a r = go a.reply r.counts
    where
      go : (o : Option Body) → Counts b o → IsAnswered t b (sv.keep h a.turn o).out
      go None c = elim c [ ]
      go (Some x) c = replied t (sv.with_sessions (sessions.store a.turn.state.sessions (sv.sender h) h.number x) a.turn) b x r.id r.epoch c

  -- the next request is answered, and so is the last one, from its kept reply
  pub taken_answered : (t : ServerTurn) (b : Body) → is_served b ≡ true → (k : Taken Body) →
      (k ≡ takes.Fresh) ⊎ ((x : Body) × (k ≡ takes.Again x) × (counts_for b x ≡ true)) → IsAnswered t b (sv.request_by t now h b k).out
  unfolding sv.request_by
  taken_answered t b e k (inl q) = subst (λ z. IsAnswered t b (sv.request_by t now h b z).out) (sym q) (served t b (sv.rule t now h b) (rule_replies t b e))
  taken_answered t b e k (inr q) = subst (λ z. IsAnswered t b (sv.request_by t now h b z).out) (sym q.1) (replied t t b q.0 refl refl q.2)
