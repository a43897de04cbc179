-- What the steps of the volume leave of an ask for a cut or a name: it is open or orphaned, unless something else is known.
use Rattle.st_lemmas.proofs.Words
use Words.{◌≡◌, ◌⊎◌, ℕ, zero, suc, ◌+◌, Bool, true, false, not, ◌&&◌, ◌||◌, ◌==◌, List, [], ◌∷◌, ◌++◌, length, map, Option, Some, None, refl, sym, ap, ◌∙◌, subst, inl, inr, if◌then◌else◌}
use Words.{eq-eqb, eqb-true, filter, find, is_some, option_and_then, AppAnswer, Ask, ClientId, Observation, ServerId}
use Words.answers
use Words.asks
use Words.seen
use Words.Lists.{Has}
use Words.Lookups.{some_is}
use Words.Members.{has_left, has_right}
use Words.Tables.{and_both, and_true, found_at, has_append, has_filter, has_filter_in, has_map, has_map_in}
use Words.Truth.{client_is, clash, eqb_self, server_is}
use Words.World as world
use Words.World.{World}
use Rattle.st_laws_volume.specs.Options.{OnSome}
use Rattle.st_laws_volume.specs.Seen.{cause_of, of_line}
use Rattle.st_laws_volume.specs.Witness.{before_line, next_op, of_lines}
use Rattle.st_laws_volume.proofs.AskedAsks.{AreOf, Asked, all_has, effect_leaves, step_right}
use Rattle.st_laws_volume.proofs.AskedAsks as asked
use Rattle.st_laws_volume.proofs.AsksTaken.{is_other}
use Rattle.st_laws_volume.proofs.EpochSteps.{started_by, step_starts}
use Rattle.st_laws_volume.proofs.AskSteps.{after_keeps}
use Rattle.st_laws_volume.proofs.ChangeLines.{on_both}
use Rattle.st_laws_volume.proofs.Options.{on_all, on_else, on_if, on_map, on_more, on_then}
use Rattle.st_volume.specs.declared.step.VolumeStep.{VolumeStep}
use Rattle.st_volume.specs.declared.step.VolumeStep.TheVariants as kinds
use Rattle.st_volume.specs.declared.step.Fate.{Fate}
use Rattle.st_volume.specs.declared.step.Fate.TheVariants as fates
use Rattle.st_volume.specs.Pages.{Entry, failed_up_to, is_cause}
use Rattle.st_volume.specs.Volume as volume
use Rattle.st_volume.specs.Volume.{Pending, Volume, acts, after_answer, answered, answers_so, arrived, closed, done, effect, epoch, failed, failing, fails, is_ask, is_ask_at, is_cut_or_name, is_of_client, is_read_of, is_sync_of, new_ask, notice, noticing, open_of, orphaned, resulting, run, server_of, takes, with_changed, with_fate, without_older}

-- The ask of this number of a client, at this server; what is known if it is neither open nor orphaned; what clients were asked; and the starts of servers.
module _ (X : Type 0) (c : ClientId) (op : ℕ) (ask : Ask) (s : ServerId) (at_server : server_of ask ≡ s) (kind : is_cut_or_name ask ≡ true) (as_ : Asked)
    (own : world.numbered (as_ c) op ≡ Some ask) (starts : List ServerId) where
  -- one of these asks has its number
  abbrev pub IsAmong : List Pending → Type 0
  IsAmong xs = (a : Pending) × Has a xs × (is_ask c op a ≡ true)

  -- it is open or orphaned, and has no result; or that is known
  pub record Waits (v : Volume) : Type 0 where
    pub results : (a : Pending) → Has a v.pending → is_ask c op a ≡ true → is_some a.result ≡ true → X
    pub among : IsAmong v.pending ⊎ IsAmong v.orphans

  abbrev pub Followed : Volume → Type 0
  Followed v = X ⊎ Waits v

  -- with what is known of the volume
  abbrev pub Knows : Volume → Type 0
  Knows v = (AreOf as_ v × (v.starts ≡ starts)) × Followed v

  its_key : (a : Pending) → is_ask c op a ≡ true → (a.client ≡ c) × (a.op ≡ op)
  its_key a e = let q = and_true (is_of_client c a) (a.op == op) e in (client_is a.client c q.0, eqb-true a.op op q.1)

  its_ask : (a : Pending) → asked.IsOf as_ a → is_ask c op a ≡ true → a.ask ≡ ask
  its_ask a i e =
      let k = its_key a e in
      some_is (sym i ∙ (ap (λ (d : ClientId). world.numbered (as_ d) a.op) k.0 ∙ (ap (λ (n : ℕ). world.numbered (as_ c) n) k.1 ∙ own)))

  -- Lists that keep the asks.
  same_among : (xs ys : List Pending) → ((a : Pending) → Has a xs → is_ask c op a ≡ true → IsAmong ys) → IsAmong xs → IsAmong ys
  same_among xs ys f (a, i, e) = f a i e

  mapped : (f : Pending → Pending) → ((a : Pending) → (is_ask c op (f a) ≡ is_ask c op a) × ((f a).result ≡ a.result)) → (v u : Volume) →
      u.pending ≡ map f v.pending → u.orphans ≡ v.orphans → Waits v → Waits u
  mapped f k v u p q w =
      record {
        results = λ a i e r. old a (has_map f v.pending a (subst (Has a) p i)) e r;
        among = go w.among;
      }
    where
      old : (a : Pending) → (x : Pending) × Has x v.pending × (a ≡ f x) → is_ask c op a ≡ true → is_some a.result ≡ true → X
      old a (x, i, z) e r =
          w.results x i (sym (k x).0 ∙ (sym (ap (is_ask c op) z) ∙ e)) (sym (ap is_some (k x).1) ∙ (sym (ap (λ (y : Pending). is_some y.result) z) ∙ r))

      go : IsAmong v.pending ⊎ IsAmong v.orphans → IsAmong u.pending ⊎ IsAmong u.orphans
      go (inl (a, i, e)) = inl (f a, subst (Has (f a)) (sym p) (has_map_in f v.pending a i), (k a).0 ∙ e)
      go (inr z) = inr (subst IsAmong (sym q) z)

  followed_map : (v u : Volume) → (Waits v → Waits u) → Followed v → Followed u
  followed_map v u f (inl x) = inl x
  followed_map v u f (inr w) = inr (f w)

  -- the same lists
  same_waits : (v u : Volume) → u.pending ≡ v.pending → u.orphans ≡ v.orphans → Waits v → Waits u
  same_waits v u p q w =
      record {
        results = λ a i. w.results a (subst (Has a) p i);
        among = go w.among;
      }
    where
      go : IsAmong v.pending ⊎ IsAmong v.orphans → IsAmong u.pending ⊎ IsAmong u.orphans
      go (inl z) = inl (subst IsAmong (sym p) z)
      go (inr z) = inr (subst IsAmong (sym q) z)

  noticed : (v : Volume) → Waits v → Waits (notice v)
  noticed v w = mapped (noticing v) (λ a. (refl, refl)) v (notice v) refl refl w

  failed_waits : (d : ClientId) (number : ℕ) (test : Ask → Bool) (v : Volume) → Waits v → Waits (failing v d number test)
  failed_waits d number test v w = mapped (fails d number test) one v (failing v d number test) refl refl w
    where
      one : (a : Pending) → (is_ask c op (fails d number test a) ≡ is_ask c op a) × ((fails d number test a).result ≡ a.result)
      one a = go (is_of_client d a && test a.ask)
        where
          go : (b : Bool) → (is_ask c op (if b then record a { faults = number ∷ a.faults } else a) ≡ is_ask c op a)
              × ((if b then record a { faults = number ∷ a.faults } else a).result ≡ a.result)
          go true = (refl, refl)
          go false = (refl, refl)

  -- An ask comes.
  arrives : (v : Volume) (d : ClientId) (new : Ask) → Waits v → Waits (arrived v d new)
  arrives v d new w =
      record {
        results = λ a i e r. old a (has_append v.pending (new_ask v d new ∷ []) a i) e r;
        among = go w.among;
      }
    where
      old : (a : Pending) → Has a v.pending ⊎ Has a (new_ask v d new ∷ []) → is_ask c op a ≡ true → is_some a.result ≡ true → X
      old a (inl i) e r = w.results a i e r
      old a (inr (inl q)) e r = clash r (ap (λ (y : Pending). is_some y.result) q)
      old a (inr (inr i)) e r = absurd i

      go : IsAmong v.pending ⊎ IsAmong v.orphans → IsAmong (v.pending ++ new_ask v d new ∷ []) ⊎ IsAmong v.orphans
      go (inl (a, i, e)) = inl (a, has_left v.pending (new_ask v d new ∷ []) a i, e)
      go (inr z) = inr z

  -- what is known if an ask takes effect, and drops the orphans of its client at its server
  abbrev pub Taken : Volume → ClientId → ℕ → Type 0
  Taken v d n = (a : Pending) → find (is_ask d n) (v.pending ++ v.orphans) ≡ Some a → a.client ≡ c → server_of a.ask ≡ s → X

  -- orphans without those of an ask's client and server
  older : (a : Pending) (xs : List Pending) → (a.client ≡ c → server_of a.ask ≡ s → X) → ((b : Pending) → Has b xs → asked.IsOf as_ b) → IsAmong xs →
      X ⊎ IsAmong (without_older a xs)
  older a xs f of (b, i, e) = go (is_of_client a.client b && is_ask_at (server_of a.ask) b) refl
    where
      k : (b.client ≡ c) × (b.op ≡ op)
      k = its_key b e

      go : (z : Bool) → (is_of_client a.client b && is_ask_at (server_of a.ask) b) ≡ z → X ⊎ IsAmong (without_older a xs)
      go true q =
          let y = and_true (is_of_client a.client b) (is_ask_at (server_of a.ask) b) q in
          inl (f (sym (client_is b.client a.client y.0) ∙ k.0)
          (sym (server_is (server_of b.ask) (server_of a.ask) (eqb-true (server_of b.ask).0 (server_of a.ask).0 y.1)) ∙
          (ap server_of (its_ask b (of b i) e) ∙ at_server)))
      go false q = inr (b, has_filter_in (λ x. not (is_of_client a.client x && is_ask_at (server_of a.ask) x)) xs b i (ap not q), e)

  takes_followed : (v : Volume) (d : ClientId) (n : ℕ) → AreOf as_ v → Taken v d n → Waits v → OnSome Followed (acts v (kinds.TakesEffect d n))
  takes_followed v d n of t w =
      on_map Followed notice (option_and_then (takes v) (find (is_ask d n) (v.pending ++ v.orphans)))
      (on_then (λ u. Followed (notice u)) (takes v) (find (is_ask d n) (v.pending ++ v.orphans)) (go (find (is_ask d n) (v.pending ++ v.orphans)) refl))
    where
      orphan_of : (b : Pending) → Has b v.orphans → asked.IsOf as_ b
      orphan_of b i = all_has as_ v.orphans b of.orphans i

      done_followed : (a : Pending) → (a.client ≡ c → server_of a.ask ≡ s → X) → asked.IsOf as_ a → (y : Volume × AppAnswer) → asked.Leaves v y →
          Followed (notice (done a y))
      done_followed a f i (u, answer) k = by (is_ask c op a) refl
        where
          by : (z : Bool) → is_ask c op a ≡ z → Followed (notice (done a (u, answer)))
          by true e = inl (f (its_key a e).0 (ap server_of (its_ask a i e) ∙ at_server))
          by false e = both w.among
            where
              other : (b : Pending) → is_ask c op b ≡ true → is_ask a.client a.op b ≡ false
              other b g = no (is_ask a.client a.op b) refl
                where
                  no : (z : Bool) → is_ask a.client a.op b ≡ z → z ≡ false
                  no false q = refl
                  no true q =
                      let y = and_true (is_of_client a.client b) (b.op == a.op) q in
                      let h = its_key b g in
                      clash
                      (and_both (is_of_client c a) (a.op == op)
                      (ap (λ (x : ClientId). x.0 == c.0) (sym (client_is b.client a.client y.0) ∙ h.0) ∙ eqb_self c.0)
                      (eq-eqb a.op op (sym (eqb-true b.op a.op y.1) ∙ h.1))) e

              kept : (b : Pending) → is_ask c op b ≡ true → resulting a answer b ≡ b
              kept b g = ap (λ z. if z then record b { result = Some answer } else b) (other b g)

              key_kept : (b : Pending) → is_ask c op (resulting a answer b) ≡ is_ask c op b
              key_kept b = pick (is_ask a.client a.op b)
                where
                  pick : (z : Bool) → is_ask c op (if z then record b { result = Some answer } else b) ≡ is_ask c op b
                  pick true = refl
                  pick false = refl

              results : (b : Pending) → Has b (notice (done a (u, answer))).pending → is_ask c op b ≡ true → is_some b.result ≡ true → X
              results b j g r = from (has_map (noticing (done a (u, answer))) (map (resulting a answer) u.pending) b j)
                where
                  from : (x : Pending) × Has x (map (resulting a answer) u.pending) × (b ≡ noticing (done a (u, answer)) x) → X
                  from (x, l, q) = more (has_map (resulting a answer) u.pending x l)
                    where
                      mine : is_ask c op x ≡ true
                      mine = sym (ap (is_ask c op) q) ∙ g

                      has : is_some x.result ≡ true
                      has = sym (ap (λ (y : Pending). is_some y.result) q) ∙ r

                      more : (y : Pending) × Has y u.pending × (x ≡ resulting a answer y) → X
                      more (y, m, p) =
                          let h : is_ask c op y ≡ true = sym (key_kept y) ∙ (sym (ap (is_ask c op) p) ∙ mine) in
                          w.results y (subst (Has y) k.pending m) h
                          (sym (ap (λ (z : Pending). is_some z.result) (kept y h)) ∙ (sym (ap (λ (z : Pending). is_some z.result) p) ∙ has))

              both : IsAmong v.pending ⊎ IsAmong v.orphans → Followed (notice (done a (u, answer)))
              both (inl (b, j, g)) =
                  inr (record {
                    results = results;
                    among =
                        inl (
                          noticing (done a (u, answer)) (resulting a answer b),
                          has_map_in (noticing (done a (u, answer))) (map (resulting a answer) u.pending) (resulting a answer b)
                              (has_map_in (resulting a answer) u.pending b (subst (Has b) (sym k.pending) j)),
                          key_kept b ∙ g,
                        );
                  })
              both (inr z) = last (older a v.orphans f orphan_of z)
                where
                  last : X ⊎ IsAmong (without_older a v.orphans) → Followed (notice (done a (u, answer)))
                  last (inl x) = inl x
                  last (inr y) = inr (record { results = results; among = inr (subst (λ xs. IsAmong (without_older a xs)) (sym k.orphans) y) })

      go : (f : Option Pending) → find (is_ask d n) (v.pending ++ v.orphans) ≡ f → OnSome (λ a. OnSome (λ u. Followed (notice u)) (takes v a)) f
      go None q = tt
      go (Some a) q =
          on_else (λ u. Followed (notice u)) _ _
          (on_map (λ u. Followed (notice u)) (done a) (effect v a.client a.ask)
          (on_more (asked.Leaves v) (λ y. Followed (notice (done a y)))
          (done_followed a (t a q) (place (has_append v.pending v.orphans a (found_at (is_ask d n) (v.pending ++ v.orphans) a q).1)))
          (effect v a.client a.ask) (effect_leaves v a.client a.ask)))
        where
          place : Has a v.pending ⊎ Has a v.orphans → asked.IsOf as_ a
          place (inl i) = all_has as_ v.pending a of.pending i
          place (inr i) = orphan_of a i

  -- An answer: to this ask only while it can't be known whether it takes effect; and a read of the client at the server ends the orphans there.
  abbrev pub Own : ClientId → ℕ → AppAnswer → Type 0
  Own d n answer = d ≡ c → n ≡ op → X ⊎ ((old : ℕ) × (answer ≡ answers.Uncertain old 0) × ((u : Volume) → u.starts ≡ starts → old ≡ epoch u s))

  abbrev pub Reads : ClientId → ℕ → AppAnswer → Type 0
  Reads d n answer = (bytes : List ℕ) → answer ≡ answers.Read bytes → d ≡ c → (other : Ask) → world.numbered (as_ c) n ≡ Some other → server_of other ≡ s → X

  -- what an answer leaves of the orphans
  orphans_left : (v : Volume) (a : Pending) (answer : AppAnswer) → AreOf as_ v →
      ((bytes : List ℕ) → answer ≡ answers.Read bytes → a.client ≡ c → server_of a.ask ≡ s → X) → IsAmong v.orphans →
      X ⊎ IsAmong (after_answer v a answer).orphans
  orphans_left v a (answers.Read bytes) of f z = older a v.orphans (f bytes refl) (λ b i. all_has as_ v.orphans b of.orphans i) z
  orphans_left v a (answers.Uncertain old zero) of f (b, i, e) = inr (b, has_left v.orphans (orphaned v a old) b i, e)
  orphans_left v a (answers.Uncertain old (suc m)) of f z = inr z
  orphans_left v a answers.Hard of f z = inr z
  orphans_left v a (answers.Lost rows) of f z = inr z
  orphans_left v a answers.Written of f z = inr z
  orphans_left v a answers.Cut of f z = inr z
  orphans_left v a answers.Quiesced of f z = inr z
  orphans_left v a answers.NoFile of f z = inr z
  orphans_left v a (answers.NoSpace n m) of f z = inr z
  orphans_left v a (answers.DiskFault n) of f z = inr z
  orphans_left v a answers.OpsFull of f z = inr z
  orphans_left v a answers.DirtyFull of f z = inr z
  orphans_left v a answers.NotHolder of f z = inr z
  orphans_left v a answers.TooManyLocks of f z = inr z
  orphans_left v a (answers.Named ino) of f z = inr z
  orphans_left v a (answers.Listed rows) of f z = inr z
  orphans_left v a (answers.Refused code) of f z = inr z

  answer_followed : (v : Volume) (d : ClientId) (n : ℕ) (answer : AppAnswer) → AreOf as_ v → v.starts ≡ starts → Own d n answer → Reads d n answer → Waits v →
      OnSome Followed (acts v (kinds.Answered d n answer))
  answer_followed v d n answer of st own_ reads w =
      on_then Followed (answered v answer) (find (is_ask d n) v.pending) (go (find (is_ask d n) v.pending) refl)
    where
      go : (f : Option Pending) → find (is_ask d n) v.pending ≡ f → OnSome (λ a. OnSome Followed (answered v answer a)) f
      go None q = tt
      go (Some a) q = on_if Followed (answers_so v a answer a.result) (Some (closed a (after_answer v a answer))) (which w.among)
        where
          its : (is_ask d n a ≡ true) × Has a v.pending
          its = found_at (is_ask d n) v.pending a q

          key : (a.client ≡ d) × (a.op ≡ n)
          key = let y = and_true (is_of_client d a) (a.op == n) its.0 in (client_is a.client d y.0, eqb-true a.op n y.1)

          as_asked : a.client ≡ c → world.numbered (as_ c) n ≡ Some a.ask
          as_asked e =
              subst (λ (k : ℕ). world.numbered (as_ c) k ≡ Some a.ask) key.1
              (subst (λ (k : ClientId). world.numbered (as_ k) a.op ≡ Some a.ask) e (all_has as_ v.pending a of.pending its.1))

          reads_here : (bytes : List ℕ) → answer ≡ answers.Read bytes → a.client ≡ c → server_of a.ask ≡ s → X
          reads_here bytes e f g = reads bytes e (sym key.0 ∙ f) a.ask (as_asked f) g

          results : (b : Pending) → Has b (closed a (after_answer v a answer)).pending → is_ask c op b ≡ true → is_some b.result ≡ true → X
          results b i =
              w.results b
              (subst (Has b) (after_keeps v a answer).pending (has_filter (λ x. not (is_ask a.client a.op x)) (after_answer v a answer).pending b i).0)

          -- this ask is answered
          orphan_now : is_ask c op a ≡ true → (old : ℕ) → answer ≡ answers.Uncertain old 0 → old ≡ epoch v s → is_some a.result ≡ false →
              IsAmong (after_answer v a answer).orphans
          orphan_now e old f g r =
              subst (λ x. IsAmong (after_answer v a x).orphans) (sym f) (
                a,
                has_right v.orphans (orphaned v a old) a
                    (subst (λ b. Has a (if b then [] else a ∷ [])) (sym none) (inl refl)),
                e,
              )
            where
              none : (is_some a.result || not (old == epoch v (server_of a.ask))) ≡ false
              none =
                  ap (λ b. b || not (old == epoch v (server_of a.ask))) r
                  ∙ ap not (eq-eqb old (epoch v (server_of a.ask))
                  (g ∙ ap (epoch v) (sym (ap server_of (its_ask a (all_has as_ v.pending a of.pending its.1) e) ∙ at_server))))

          closes : is_ask c op a ≡ true → X ⊎ ((old : ℕ) × (answer ≡ answers.Uncertain old 0) × ((u : Volume) → u.starts ≡ starts → old ≡ epoch u s)) →
              Followed (closed a (after_answer v a answer))
          closes e (inl x) = inl x
          closes e (inr (old, f, g)) = by (is_some a.result) refl
            where
              by : (b : Bool) → is_some a.result ≡ b → Followed (closed a (after_answer v a answer))
              by true r = inl (w.results a its.1 e r)
              by false r = inr (record { results = results; among = inr (orphan_now e old f (g v st) r) })

          which : IsAmong v.pending ⊎ IsAmong v.orphans → Followed (closed a (after_answer v a answer))
          which (inr z) = last (orphans_left v a answer of reads_here z)
            where
              last : X ⊎ IsAmong (after_answer v a answer).orphans → Followed (closed a (after_answer v a answer))
              last (inl x) = inl x
              last (inr y) = inr (record { results = results; among = inr y })
          which (inl (b, i, e)) = by (is_ask a.client a.op b) refl
            where
              by : (z : Bool) → is_ask a.client a.op b ≡ z → Followed (closed a (after_answer v a answer))
              by false g =
                  inr (record {
                    results = results;
                    among =
                        inl (
                          b,
                          has_filter_in (λ x. not (is_ask a.client a.op x)) (after_answer v a answer).pending b
                              (subst (Has b) (sym (after_keeps v a answer).pending) i) (ap not g),
                          e,
                        );
                  })
              by true g =
                  let y = and_true (is_of_client a.client b) (b.op == a.op) g in
                  let k = its_key b e in
                  let client : a.client ≡ c = sym (client_is b.client a.client y.0) ∙ k.0 in
                  let number : a.op ≡ op = sym (eqb-true b.op a.op y.1) ∙ k.1 in
                  closes
                  (and_both (is_of_client c a) (a.op == op) (ap (λ (x : ClientId). x.0 == c.0) client ∙ eqb_self c.0) (eq-eqb a.op op number))
                  (own_ (sym key.0 ∙ client) (sym key.1 ∙ number))

  -- A client crashes: its asks for cuts and names are orphaned.
  crash_followed : (v : Volume) (d : ClientId) → AreOf as_ v → Waits v → Followed (volume.crashed v d)
  crash_followed v d of w = go w.among
    where
      orphan : Pending → Bool
      orphan a = is_cut_or_name a.ask && not (is_some a.result)

      results : (a : Pending) → Has a (volume.crashed v d).pending → is_ask c op a ≡ true → is_some a.result ≡ true → X
      results a i = w.results a (has_filter (λ x. not (is_of_client d x)) v.pending a i).0

      go : IsAmong v.pending ⊎ IsAmong v.orphans → Followed (volume.crashed v d)
      go (inr (a, i, e)) = inr (record { results = results; among = inr (a, has_left v.orphans _ a i, e) })
      go (inl (a, i, e)) = by (is_of_client d a) refl
        where
          by : (z : Bool) → is_of_client d a ≡ z → Followed (volume.crashed v d)
          by false q = inr (record { results = results; among = inl (a, has_filter_in (λ x. not (is_of_client d x)) v.pending a i (ap not q), e) })
          by true q = has (is_some a.result) refl
            where
              has : (z : Bool) → is_some a.result ≡ z → Followed (volume.crashed v d)
              has true r = inl (w.results a i e r)
              has false r =
                  inr (record {
                    results = results;
                    among =
                        inr (
                          a,
                          has_right v.orphans (filter (λ x. is_cut_or_name x.ask && not (is_some x.result)) (open_of v d)) a
                              (has_filter_in (λ x. is_cut_or_name x.ask && not (is_some x.result)) (open_of v d) a
                              (has_filter_in (is_of_client d) v.pending a i q)
                              (and_both (is_cut_or_name a.ask) (not (is_some a.result))
                              (ap is_cut_or_name (its_ask a (all_has as_ v.pending a of.pending i) e) ∙ kind) (ap not r))),
                          e,
                        );
                  })

  -- A server starts again.
  start_followed : (v : Volume) (r : ServerId) → (r ≡ s → X) → AreOf as_ v → Waits v → Followed (volume.restarted v r)
  start_followed v r f of w = go w.among
    where
      go : IsAmong v.pending ⊎ IsAmong v.orphans → Followed (volume.restarted v r)
      go (inl z) = inr (record { results = w.results; among = inl z })
      go (inr (a, i, e)) = by (is_ask_at r a) refl
        where
          by : (z : Bool) → is_ask_at r a ≡ z → Followed (volume.restarted v r)
          by true q =
              inl (f (sym (server_is (server_of a.ask) r (eqb-true (server_of a.ask).0 r.0 q))
              ∙ (ap server_of (its_ask a (all_has as_ v.orphans a of.orphans i) e) ∙ at_server)))
          by false q = inr (record { results = w.results; among = inr (a, has_filter_in (λ x. not (is_ask_at r x)) v.orphans a i (ap not q), e) })

  -- Each step.
  abbrev pub Fine : VolumeStep → Volume → Type 0
  Fine (kinds.TakesEffect d n) v = Taken v d n
  Fine (kinds.Answered d n answer) v = Own d n answer × Reads d n answer
  Fine (kinds.Restarted r) v = r ≡ s → X
  Fine it v = Unit {0}

  fate_followed : (v : Volume) (i : ℕ) (test : Entry → Bool) (fate : Fate) → Waits v → OnSome Followed (with_fate v i test fate)
  fate_followed v i test fate w =
      on_map Followed (with_changed v i) _ (on_all (λ e. Followed (with_changed v i e)) (λ e. inr (same_waits v (with_changed v i e) refl refl w)) _)

  -- a step that is neither an ask nor a start
  abbrev pub starts_none : VolumeStep → Bool
  starts_none (kinds.Asked d new) = false
  starts_none (kinds.Restarted r) = false
  starts_none it = true

  acts_followed : (v : Volume) (it : VolumeStep) → (is_other it ≡ true → AreOf as_ v) → (starts_none it ≡ true → v.starts ≡ starts) → Fine it v → Waits v →
      OnSome Followed (acts v it)
  acts_followed v (kinds.Asked d new) of st f w =
      on_if Followed _ (Some (notice (arrived v d new))) (inr (noticed (arrived v d new) (arrives v d new w)))
  acts_followed v (kinds.TakesEffect d n) of st f w = takes_followed v d n (of refl) f w
  acts_followed v (kinds.Answered d n answer) of st f w = answer_followed v d n answer (of refl) (st refl) f.0 f.1 w
  acts_followed v (kinds.Hardened i) of st f w = fate_followed v i (λ e. true) fates.Hard w
  acts_followed v (kinds.Dropped i cause) of st f w = fate_followed v i (is_cause cause) fates.Dropped w
  acts_followed v (kinds.Crashed d) of st f w = crash_followed v d (of refl) w
  acts_followed v (kinds.Restarted r) of st f w = start_followed v r f (of refl) w
  acts_followed v (kinds.WriteFailed d number i) of st f w =
      on_map Followed (failed v d number i) _
      (on_all (λ x. Followed (failed v d number i x))
      (λ x. inr (failed_waits d number (is_sync_of x.0) (record v { log = failed_up_to i d number x v.log })
      (same_waits v (record v { log = failed_up_to i d number x v.log }) refl refl w))) _)
  acts_followed v (kinds.ReadFailed d r number) of st f w = inr (failed_waits d number (is_read_of r) v w)
  acts_followed v (kinds.Joined i d what) of st f w = tt

  step_waits : (v : Volume) (it : VolumeStep) → (is_other it ≡ true → AreOf as_ v) → (starts_none it ≡ true → v.starts ≡ starts) → Fine it v → Waits v →
      OnSome Followed (volume.step v it)
  step_waits v (kinds.Joined i d what) of st f w =
      on_if Followed _ (Some (record v { lines = i })) (inr (same_waits v (record v { lines = i }) refl refl w))
  step_waits v (kinds.Asked d new) of st f w = on_if Followed (v.lines == length v.log) _ (acts_followed v (kinds.Asked d new) of st f w)
  step_waits v (kinds.TakesEffect d n) of st f w = on_if Followed (v.lines == length v.log) _ (acts_followed v (kinds.TakesEffect d n) of st f w)
  step_waits v (kinds.Answered d n answer) of st f w =
      on_if Followed (v.lines == length v.log) _ (acts_followed v (kinds.Answered d n answer) of st f w)
  step_waits v (kinds.Hardened i) of st f w = on_if Followed (v.lines == length v.log) _ (acts_followed v (kinds.Hardened i) of st f w)
  step_waits v (kinds.Dropped i cause) of st f w = on_if Followed (v.lines == length v.log) _ (acts_followed v (kinds.Dropped i cause) of st f w)
  step_waits v (kinds.Crashed d) of st f w = on_if Followed (v.lines == length v.log) _ (acts_followed v (kinds.Crashed d) of st f w)
  step_waits v (kinds.Restarted r) of st f w = on_if Followed (v.lines == length v.log) _ (acts_followed v (kinds.Restarted r) of st f w)
  step_waits v (kinds.WriteFailed d number i) of st f w =
      on_if Followed (v.lines == length v.log) _ (acts_followed v (kinds.WriteFailed d number i) of st f w)
  step_waits v (kinds.ReadFailed d r number) of st f w =
      on_if Followed (v.lines == length v.log) _ (acts_followed v (kinds.ReadFailed d r number) of st f w)

  pub step_followed : (v : Volume) (it : VolumeStep) → (is_other it ≡ true → AreOf as_ v) → (starts_none it ≡ true → v.starts ≡ starts) → Fine it v →
      Followed v → OnSome Followed (volume.step v it)
  step_followed v it of st f (inl x) = on_all Followed (λ u. inl x) (volume.step v it)
  step_followed v it of st f (inr w) = step_waits v it of st f w

  pub inner_step : (v : Volume) (it : VolumeStep) → starts_none it ≡ true → (Knows v → Fine it v) → Knows v → OnSome Knows (volume.step v it)
  inner_step v it q f k =
      on_both (λ u. AreOf as_ u × (u.starts ≡ starts)) Followed (volume.step v it)
      (on_both (AreOf as_) (λ u. u.starts ≡ starts) (volume.step v it) (step_right as_ v it (other it q) k.0.0)
      (on_more (λ u. u.starts ≡ started_by it v.starts) (λ u. u.starts ≡ starts) (λ u e. e ∙ (still it q v.starts ∙ k.0.1)) (volume.step v it)
      (step_starts v it)))
      (step_followed v it (λ e. k.0.0) (λ e. k.0.1) (f k) k.1)
    where
      other : (it : VolumeStep) → starts_none it ≡ true → is_other it ≡ true
      other (kinds.Asked d new) e = cc e
      other it e = refl

      still : (it : VolumeStep) → starts_none it ≡ true → (xs : List ServerId) → started_by it xs ≡ xs
      still (kinds.Restarted r) e xs = cc e
      still it e xs = refl

  pub run_two : (it : VolumeStep) (rest : List VolumeStep) (v : Volume) → starts_none it ≡ true → (Knows v → Fine it v) → Knows v →
      ((u : Volume) → Knows u → OnSome Knows (run rest u)) → OnSome Knows (run (it ∷ rest) v)
  unfolding run
  run_two it rest v q f k g =
      on_then Knows (run rest) (volume.step v it) (on_more Knows (λ u. OnSome Knows (run rest u)) g (volume.step v it) (inner_step v it q f k))

  -- what is seen of an event itself is one step at most
  pub run_one : (v : Volume) (it : VolumeStep) → (is_other it ≡ true → AreOf as_ v) → (starts_none it ≡ true → v.starts ≡ starts) → Fine it v →
      Followed v → OnSome Followed (run (it ∷ []) v)
  unfolding run
  run_one v it of st f h =
      on_then Followed (run []) (volume.step v it)
      (on_more Followed (λ u. OnSome Followed (run [] u)) (λ u k. k) (volume.step v it) (step_followed v it of st f h))

  -- Lines.

  -- what is known if a write or a patch of the client takes effect
  abbrev pub Changes : ClientId → ℕ → Type 0
  Changes d n = d ≡ c → (other : Ask) → world.numbered (as_ c) n ≡ Some other → server_of other ≡ s → X

  abbrev pub LineFine : Observation → List Observation → Type 0
  LineFine (seen.Wrote i d f p bytes) os = Changes d (next_op os)
  LineFine (seen.Patched i d f p at bytes) os = Changes d (next_op os)
  LineFine (seen.Answered d n answer) os = Own d n answer × Reads d n answer
  LineFine o os = Unit {0}

  abbrev pub LinesFine : List Observation → Type 0
  LinesFine [] = Unit {0}
  LinesFine (o ∷ os) = LineFine o os × LinesFine os

  taken_here : (v : Volume) (d : ClientId) (n : ℕ) → Changes d n → Knows v → Taken v d n
  taken_here v d n f k a q e g = f (sym key.0 ∙ e) a.ask there g
    where
      its : (is_ask d n a ≡ true) × Has a (v.pending ++ v.orphans)
      its = found_at (is_ask d n) (v.pending ++ v.orphans) a q

      key : (a.client ≡ d) × (a.op ≡ n)
      key = let y = and_true (is_of_client d a) (a.op == n) its.0 in (client_is a.client d y.0, eqb-true a.op n y.1)

      place : Has a v.pending ⊎ Has a v.orphans → asked.IsOf as_ a
      place (inl i) = all_has as_ v.pending a k.0.0.pending i
      place (inr i) = all_has as_ v.orphans a k.0.0.orphans i

      there : world.numbered (as_ c) n ≡ Some a.ask
      there =
          subst (λ (m : ℕ). world.numbered (as_ c) m ≡ Some a.ask) key.1
          (subst (λ (m : ClientId). world.numbered (as_ m) a.op ≡ Some a.ask) e (place (has_append v.pending v.orphans a its.1)))

  pub lines_followed : (w : World) (os : List Observation) (v : Volume) → LinesFine os → Knows v → OnSome Knows (run (of_lines w os) v)
  unfolding of_lines before_line of_line run
  lines_followed w [] v f k = k
  lines_followed w (seen.Wrote i d g p bytes ∷ os) v f k =
      run_two (kinds.TakesEffect d (next_op os)) (kinds.Joined i (Some d) (asks.Write g p bytes) ∷ of_lines w os) v refl (taken_here v d (next_op os) f.0) k
      (λ u j. run_two (kinds.Joined i (Some d) (asks.Write g p bytes)) (of_lines w os) u refl (λ e. tt) j (λ y l. lines_followed w os y f.1 l))
  lines_followed w (seen.Patched i d g p at bytes ∷ os) v f k =
      run_two (kinds.TakesEffect d (next_op os)) (kinds.Joined i (Some d) (asks.Patch g p at bytes) ∷ of_lines w os) v refl (taken_here v d (next_op os) f.0) k
      (λ u j. run_two (kinds.Joined i (Some d) (asks.Patch g p at bytes)) (of_lines w os) u refl (λ e. tt) j (λ y l. lines_followed w os y f.1 l))
  lines_followed w (seen.CutAt i g p ∷ os) v f k =
      run_two (kinds.Joined i None (asks.Cut g p)) (of_lines w os) v refl (λ e. tt) k (λ u j. lines_followed w os u f.1 j)
  lines_followed w (seen.Hardened i ∷ os) v f k = run_two (kinds.Hardened i) (of_lines w os) v refl (λ e. tt) k (λ u j. lines_followed w os u f.1 j)
  lines_followed w (seen.Dropped i cause ∷ os) v f k =
      run_two (kinds.Dropped i (cause_of w cause)) (of_lines w os) v refl (λ e. tt) k (λ u j. lines_followed w os u f.1 j)
  lines_followed w (seen.Answered d n answer ∷ os) v f k =
      run_two (kinds.Answered d n answer) (of_lines w os) v refl (λ e. f.0) k (λ u j. lines_followed w os u f.1 j)
  lines_followed w (seen.Sent n m ∷ os) v f k = lines_followed w os v f.1 k
  lines_followed w (seen.Submitted n d number what ∷ os) v f k = lines_followed w os v f.1 k
  lines_followed w (seen.Leased d r end ∷ os) v f k = lines_followed w os v f.1 k
  lines_followed w (seen.Lost d r life ∷ os) v f k = lines_followed w os v f.1 k
  lines_followed w (seen.Suspected r d start ∷ os) v f k = lines_followed w os v f.1 k
  lines_followed w (seen.Stolen r d life ∷ os) v f k = lines_followed w os v f.1 k
