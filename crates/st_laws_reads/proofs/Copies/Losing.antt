-- A lease that is over leaves nothing cached: the losses at the head of a step.
use Rattle.st_lemmas.proofs.Words
use Words.{◌≡◌, ℕ, ◌<◌, ◌≤◌, Bool, true, false, not, List, [], ◌∷◌, ◌==◌, Option, Some, None, refl, sym, ap, ◌∙◌, subst, arith, if◌then◌else◌, filter, eqb-true}
use Words.{ClientId, ServerId, Life, Stamp, Ask, Output, LostPage, Operation, LogEntry}
use Words.asks
use Words.answers
use Words.notes
use Words.outputs
use Words.FlatLog.{is_of_life, is_of_client}
use Words.Keys.{same_server}
use Words.Client as cl
use Words.ClientPages as pages
use Words.ClientPages.{Store, empty_store}
use Words.ClientState as st
use Words.ClientState.{ClientSession, Turn, is_of, with_operations, answered, with_lost_rows, note}
use Words.Tables.{and_true}
use Rattle.st_laws_refine.specs.Client.World.{logged}
use Rattle.st_laws_refine.specs.Client.Invariants.{Lasts}
use Rattle.st_laws_refine.proofs.Client.Losses.{not_over}
use Rattle.st_laws_reads.specs.Copies.Copies.{Right, RightOne, FatesOk, AskedSo}
use Rattle.st_laws_reads.specs.Copies.Law.{CopiesAt, StandsWhile, Lived}
use Rattle.st_laws_reads.proofs.Copies.Logs.{logged_both, right_both}
use Rattle.st_laws_reads.proofs.Copies.Caches.{nothing_ok}

-- of a life that no entry reached, nothing is owed
pub unlived_fates : (c : ClientId) (sv : ServerId) (old life : Life) (x : Store) (es : List LogEntry) → old.0 < life.0 → Lived c sv old es → FatesOk c life sv x es
unlived_fates c sv old life x [] h r = record {}
unlived_fates c sv old life x (e ∷ es) h r = record { one = λ o. absurd (never o); rest = unlived_fates c sv old life x es h r.rest }
  where
    never : is_of_life c sv life e.of ≡ true → ⊥
    never o =
        let p = and_true (is_of_client c e.of) _ o in
        let q = and_true (same_server e.of.file.server sv) (e.of.life.0 == life.0) p.1 in
        let l : e.of.life.0 ≤ old.0 = r.one p.0 (ap (λ n. record { 0 = n }) (eqb-true _ _ q.0)) in
        let m : e.of.life.0 ≡ life.0 = eqb-true _ _ q.1 in
        omega (arith, h, l, m)

module _ (ask_of : ℕ → Option Ask) (c : ClientId) (lives : ServerId → Life) (es : List LogEntry) where
  -- what is only said: answers that owe nothing
  record Talks (t u : Turn) : Type 0 where
    pub there : u.here.server ≡ t.here.server
    pub alive : u.here.life ≡ t.here.life
    pub operations : u.operations ≡ t.operations
    pub log : logged c lives u.out es ≡ logged c lives t.out es
    pub right : Right ask_of c lives es t.out → Right ask_of c lives es u.out

  talks_same : (t : Turn) → Talks t t
  talks_same t = record { there = refl; alive = refl; operations = refl; log = refl; right = λ r. r }

  talks_then : (t u v : Turn) → Talks t u → Talks u v → Talks t v
  talks_then t u v p q = record { there = q.there ∙ p.there; alive = q.alive ∙ p.alive; operations = q.operations ∙ p.operations; log = q.log ∙ p.log; right = λ r. q.right (p.right r) }

  -- one output that owes nothing, and other lost pages
  talks_one : (t : Turn) (lost : List LostPage) (o : Output) → ((x : List LogEntry) → logged c lives (o ∷ []) x ≡ x) → ((last : Option Output) (x : List LogEntry) → RightOne ask_of c lives last x o) → Talks t (st.say (with_lost_rows lost t) o)
  talks_one t lost o quiet right =
      record {
        there = refl;
        alive = refl;
        operations = refl;
        log = logged_both c lives t.out (o ∷ []) es ∙ quiet (logged c lives t.out es);
        right = λ r. right_both ask_of c lives t.out (o ∷ []) es r (record { one = right _ (logged c lives t.out es); rest = record {} });
      }

  talks_unsent : (t : Turn) (o : Operation) (a : Ask) → Talks t (cl.end_unsent t o a)
  unfolding cl.end_unsent cl.end_sync cl.tell_lost
  talks_unsent t o (asks.Sync f) = go (pages.has_lost t.here.lost f.ino)
    where
      go : (b : Bool) → Talks t (if b then cl.tell_lost t o.op f.ino else answered t o.op answers.Quiesced)
      go true = talks_one t (pages.untold t.here.lost f.ino) (outputs.Answer o.op (answers.Lost (pages.told_rows t.here.lost f.ino))) (λ x. refl) (λ last x. record {})
      go false = talks_one t t.here.lost (outputs.Answer o.op answers.Quiesced) (λ x. refl) (λ last x. record {})
  talks_unsent t o a = talks_one t t.here.lost (outputs.Answer o.op answers.Quiesced) (λ x. refl) (λ last x. record {})

  talks_each : (s : ClientSession) (os : List Operation) (t : Turn) → Talks t (cl.end_each s os t)
  unfolding cl.end_each cl.end_operation
  talks_each s [] t = talks_same t
  talks_each s (o ∷ os) t = let u : Turn = cl.end_operation t s o in talks_then t u _ (go (st.is_sent o)) (talks_each s os u)
    where
      go : (b : Bool) → Talks t (if b then answered t o.op (answers.Uncertain s.epoch.0 0) else cl.end_unsent t o o.ask)
      go true = talks_one t t.here.lost (outputs.Answer o.op (answers.Uncertain s.epoch.0 0)) (λ x. refl) (λ last x. record {})
      go false = talks_unsent t o o.ask

  -- what a loss makes of a turn
  pub record Loses (n : Stamp) (t u : Turn) : Type 0 where
    pub there : u.here.server ≡ t.here.server
    pub log : logged c lives u.out es ≡ logged c lives t.out es
    pub right : Right ask_of c lives es t.out → Right ask_of c lives es u.out
    pub asked : AskedSo ask_of t.operations → AskedSo ask_of u.operations
    pub copies : StandsWhile t.config.lease n.0 c (logged c lives t.out es) t.here → lives u.here.server ≡ u.here.life → CopiesAt c lives (logged c lives t.out es) u.here
    pub lived : Lived c t.here.server t.here.life (logged c lives t.out es) → Lived c u.here.server u.here.life (logged c lives t.out es)

  lost_nothing : (n : Stamp) (t : Turn) → Lasts t.config.lease n.0 t.here.session → Loses n t t
  lost_nothing n t last =
      record {
        there = refl;
        log = refl;
        right = λ r. r;
        asked = λ a. a;
        copies = λ w l. let r = w.lasting last in record { pages = r.pages; fates = subst (λ v. FatesOk c v t.here.server t.here.store (logged c lives t.out es)) (sym l) r.fates };
        lived = λ l. l;
      }

  asked_filter : (t : Operation → Bool) (os : List Operation) → AskedSo ask_of os → AskedSo ask_of (filter t os)
  asked_filter t [] r = r
  asked_filter t (o ∷ os) r = go (t o) (asked_filter t os r.rest)
    where
      go : (b : Bool) → AskedSo ask_of (filter t os) → AskedSo ask_of (if b then o ∷ filter t os else filter t os)
      go true q = record { one = r.one; rest = q }
      go false q = q

  pub lived_on : (sv : ServerId) (old life : Life) (l : List LogEntry) → old.0 ≤ life.0 → Lived c sv old l → Lived c sv life l
  lived_on sv old life [] h r = record {}
  lived_on sv old life (e ∷ l) h r = record { one = λ o s. let z = r.one o s in omega (arith, z, h); rest = lived_on sv old life l h r.rest }

  -- a lease that is over
  lost_session : (n : Stamp) (t : Turn) (s : ClientSession) → Loses n t (cl.lose_session t s)
  unfolding cl.lose_session cl.end_operations
  lost_session n t s =
      let noted : Talks t v = talks_one t (pages.with_lost_pages t.here.store.commands t.here.store.pages.dirty t.here.lost) (outputs.Note (notes.Lost t.here.server t.here.life)) (λ x. refl) (λ last x. record {}) in
      let ended : Talks w u = talks_each s (filter (is_of t.here.server) t.operations) w in
      let next : t.here.life.0 < (cl.next_life u.here.life).0 = after (ended.alive) in
      record {
        there = ended.there;
        log = ended.log ∙ noted.log;
        right = λ r. ended.right (noted.right r);
        asked = λ a. subst (λ os. AskedSo ask_of os) (sym ended.operations) (asked_filter (λ o. not (is_of t.here.server o)) t.operations a);
        copies = λ r l. record {
          pages = λ ino p. nothing_ok 0 _ empty_store ino p (record { dirty = refl; clean = refl; known = refl; reading = refl });
          fates =
              subst (λ sv. FatesOk c (lives sv) sv empty_store (logged c lives t.out es)) (sym ended.there)
              (unlived_fates c t.here.server t.here.life (lives t.here.server) empty_store (logged c lives t.out es)
              (subst (λ (n : Life). t.here.life.0 < n.0) (sym (ap lives (sym ended.there) ∙ l)) next) r.lived);
        };
        lived = λ l. subst (λ sv. Lived c sv (cl.next_life u.here.life) (logged c lives t.out es)) (sym ended.there) (lived_on t.here.server t.here.life (cl.next_life u.here.life) (logged c lives t.out es) (omega (arith, next)) l);
      }
    where
      v : Turn
      v = cl.with_lost_pages t.here.store (note t (notes.Lost t.here.server t.here.life))

      w : Turn
      w = with_operations (filter (λ o. not (is_of t.here.server o)) t.operations) v

      u : Turn
      u = cl.end_each s (filter (is_of t.here.server) t.operations) w

      after : u.here.life ≡ t.here.life → t.here.life.0 < (cl.next_life u.here.life).0
      after e = let z : u.here.life.0 ≡ t.here.life.0 = ap (λ (n : Life). n.0) e in omega (arith, z)

  pub lose_keeps : (n : Stamp) (t : Turn) → Loses n t (cl.lose n t)
  unfolding cl.lose cl.lose_by cl.lose_over
  lose_keeps n t = go t.here.session refl
    where
      over : (s : ClientSession) → t.here.session ≡ Some s → (b : Bool) → cl.is_over t s n ≡ b → Loses n t (if b then cl.lose_session t s else t)
      over s e true q = lost_session n t s
      over s e false q = lost_nothing n t (subst (λ o. Lasts t.config.lease n.0 o) (sym e) (not_over t s n q))

      go : (o : Option ClientSession) → t.here.session ≡ o → Loses n t (cl.lose_by t n o)
      go None e = lost_nothing n t (subst (λ o. Lasts t.config.lease n.0 o) (sym e) (record {}))
      go (Some s) e = over s e (cl.is_over t s n) refl
