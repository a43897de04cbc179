-- A rule at each server in turn: what is done at one leaves the pages of the others, and all stay as the log has them.
use Rattle.st_lemmas.proofs.Words
use Words.{◌≡◌, ℕ, Bool, true, false, List, [], ◌∷◌, ◌++◌, ◌==◌, Option, refl, sym, ap, ◌∙◌, subst, append_assoc, inl, inr, eqb-true, eq-eqb, ClientId}
use Words.{ServerId, Life, Ask, LogEntry, append-nil}
use Words.Keys.{same_server}
use Words.ClientState.{Association, Turn, ClientTurn, enter, leave, at_these, at_each, with_associations}
use Rattle.st_laws_refine.specs.Views.Halves.{held_in}
use Rattle.st_laws_refine.specs.Client.World.{logged}
use Rattle.st_laws_reads.specs.Copies.Copies.{Right, PageOk, AskedSo, Joined, AllOf, Keeps, Copies, file_at}
use Rattle.st_laws_reads.specs.Copies.Law.{CopiesAt, AllCopies, Differs, Apart, Listed, AllListed, JoinedBy}
use Rattle.st_laws_reads.proofs.Copies.Away.{joined_content, joined_fates}

-- Associations with the same servers and lives, in order.
abbrev pub SamePlaces : List Association → List Association → Type 0
SamePlaces [] [] = Unit {0}
SamePlaces (a ∷ xs) (b ∷ ys) = record { there : b.server ≡ a.server; alive : b.life ≡ a.life; rest : SamePlaces xs ys }
SamePlaces [] (b ∷ ys) = ⊥
SamePlaces (a ∷ xs) [] = ⊥

pub same_self : (xs : List Association) → SamePlaces xs xs
same_self [] = record {}
same_self (a ∷ xs) = record { there = refl; alive = refl; rest = same_self xs }

pub same_next : (xs ys zs : List Association) → SamePlaces xs ys → SamePlaces ys zs → SamePlaces xs zs
same_next [] [] [] p q = record {}
same_next (a ∷ xs) (b ∷ ys) (d ∷ zs) p q = record { there = q.there ∙ p.there; alive = q.alive ∙ p.alive; rest = same_next xs ys zs p.rest q.rest }
same_next [] (b ∷ ys) zs p q = absurd p
same_next (a ∷ xs) [] zs p q = absurd p
same_next [] [] (d ∷ zs) p q = absurd q
same_next (a ∷ xs) (b ∷ ys) [] p q = absurd q

-- one association among others
same_amid : (past rest : List Association) (a b : Association) → b.server ≡ a.server → b.life ≡ a.life → SamePlaces (past ++ a ∷ rest) (past ++ b ∷ rest)
same_amid [] rest a b e f = record { there = e; alive = f; rest = same_self rest }
same_amid (x ∷ past) rest a b e f = record { there = refl; alive = refl; rest = same_amid past rest a b e f }

-- Associations with the same servers, in order.
abbrev pub SameServers : List Association → List Association → Type 0
SameServers [] [] = Unit {0}
SameServers (a ∷ xs) (b ∷ ys) = record { there : b.server ≡ a.server; rest : SameServers xs ys }
SameServers [] (b ∷ ys) = ⊥
SameServers (a ∷ xs) [] = ⊥

pub servers_of : (xs ys : List Association) → SamePlaces xs ys → SameServers xs ys
servers_of [] [] p = record {}
servers_of (a ∷ xs) (b ∷ ys) p = record { there = p.there; rest = servers_of xs ys p.rest }
servers_of [] (b ∷ ys) p = absurd p
servers_of (a ∷ xs) [] p = absurd p

pub servers_self : (xs : List Association) → SameServers xs xs
servers_self [] = record {}
servers_self (a ∷ xs) = record { there = refl; rest = servers_self xs }

pub servers_next : (xs ys zs : List Association) → SameServers xs ys → SameServers ys zs → SameServers xs zs
servers_next [] [] [] p q = record {}
servers_next (a ∷ xs) (b ∷ ys) (d ∷ zs) p q = record { there = q.there ∙ p.there; rest = servers_next xs ys zs p.rest q.rest }
servers_next [] (b ∷ ys) zs p q = absurd p
servers_next (a ∷ xs) [] zs p q = absurd p
servers_next [] [] (d ∷ zs) p q = absurd q
servers_next (a ∷ xs) (b ∷ ys) [] p q = absurd q

pub servers_amid : (past rest : List Association) (a b : Association) → b.server ≡ a.server → SameServers (past ++ a ∷ rest) (past ++ b ∷ rest)
servers_amid [] rest a b e = record { there = e; rest = servers_self rest }
servers_amid (x ∷ past) rest a b e = record { there = refl; rest = servers_amid past rest a b e }

-- Servers that differ.
differs_behind : (sv : ServerId) (xs ys : List Association) → Differs sv (xs ++ ys) → Differs sv ys
differs_behind sv [] ys d = d
differs_behind sv (x ∷ xs) ys d = differs_behind sv xs ys d.rest

differs_same : (sv : ServerId) (xs ys : List Association) → SameServers xs ys → Differs sv xs → Differs sv ys
differs_same sv [] [] s d = d
differs_same sv (x ∷ xs) (y ∷ ys) s d = record { one = ap (λ v. same_server sv v) s.there ∙ d.one; rest = differs_same sv xs ys s.rest d.rest }
differs_same sv [] (y ∷ ys) s d = absurd s
differs_same sv (x ∷ xs) [] s d = absurd s

pub apart_same : (xs ys : List Association) → SameServers xs ys → Apart xs → Apart ys
apart_same [] [] s d = d
apart_same (x ∷ xs) (y ∷ ys) s d = record { one = subst (λ v. Differs v ys) (sym s.there) (differs_same x.server xs ys s.rest d.one); rest = apart_same xs ys s.rest d.rest }
apart_same [] (y ∷ ys) s d = absurd s
apart_same (x ∷ xs) [] s d = absurd s

-- an association is apart from those before and after it
same_back : (a b : ℕ) → (a == b) ≡ false → (b == a) ≡ false
same_back a b e = go (b == a) refl
  where
    go : (x : Bool) → (b == a) ≡ x → x ≡ false
    go true f = let z = eq-eqb a b (sym (eqb-true _ _ f)) in cc
    go false f = refl

server_back : (a b : ServerId) → same_server a b ≡ false → same_server b a ≡ false
server_back a b e = same_back a.0 b.0 e

before : (past rest : List Association) (a : Association) → Apart (past ++ a ∷ rest) → Differs a.server past
before [] rest a d = record {}
before (x ∷ past) rest a d = record { one = server_back x.server a.server (differs_behind x.server past (a ∷ rest) d.one).one; rest = before past rest a d.rest }

behind : (past rest : List Association) (a : Association) → Apart (past ++ a ∷ rest) → Differs a.server rest
behind [] rest a d = d.one
behind (x ∷ past) rest a d = behind past rest a d.rest

-- Entries of files of these servers.
listed_amid : (past rest : List Association) (a : Association) → Listed a.server (past ++ a ∷ rest)
listed_amid [] rest a = inl refl
listed_amid (x ∷ past) rest a = inr (listed_amid past rest a)

listed_same : (sv : ServerId) (xs ys : List Association) → SameServers xs ys → Listed sv xs → Listed sv ys
listed_same sv (a ∷ xs) (b ∷ ys) s (inl e) = inl (s.there ∙ e)
listed_same sv (a ∷ xs) (b ∷ ys) s (inr l) = inr (listed_same sv xs ys s.rest l)
listed_same sv [] ys s l = elim l [ ]
listed_same sv (a ∷ xs) [] s l = absurd s

all_same : (xs ys : List Association) (es : List LogEntry) → SameServers xs ys → AllListed xs es → AllListed ys es
all_same xs ys [] s a = record {}
all_same xs ys (e ∷ es) s a = record { one = listed_same e.of.file.server xs ys s a.one; rest = all_same xs ys es s a.rest }

all_of_server : (sv : ServerId) (xs : List Association) (es : List LogEntry) → Listed sv xs → AllOf sv es → AllListed xs es
all_of_server sv xs [] l a = record {}
all_of_server sv xs (e ∷ es) l a = record { one = subst (λ v. Listed v xs) (sym a.one) l; rest = all_of_server sv xs es l a.rest }

all_listed_both : (xs : List Association) (es fs : List LogEntry) → AllListed xs es → AllListed xs fs → AllListed xs (es ++ fs)
all_listed_both xs [] fs a b = b
all_listed_both xs (e ∷ es) fs a b = record { one = a.one; rest = all_listed_both xs es fs a.rest b }

pub joined_nothing : (xs : List Association) (l m : List LogEntry) → m ≡ l → JoinedBy xs l m
joined_nothing xs l m e = record { more = []; is = e ∙ sym (append-nil l); listed = record {} }

pub joined_next : (xs : List Association) (l m n : List LogEntry) → JoinedBy xs l m → JoinedBy xs m n → JoinedBy xs l n
joined_next xs l m n p q = record { more = p.more ++ q.more; is = q.is ∙ ap (λ x. x ++ q.more) p.is ∙ append_assoc l p.more q.more; listed = all_listed_both xs p.more q.more p.listed q.listed }

pub joined_over : (xs ys : List Association) (l m : List LogEntry) → SameServers xs ys → JoinedBy xs l m → JoinedBy ys l m
joined_over xs ys l m s p = record { more = p.more; is = p.is; listed = all_same xs ys p.more s p.listed }

module _ (ask_of : ℕ → Option Ask) (c : ClientId) (lives : ServerId → Life) (es : List LogEntry) where
  -- what holds at each association holds in a log that goes on by another server's entries
  copies_away : (sv : ServerId) (l m : List LogEntry) (list : List Association) → Joined sv l m → Differs sv list → AllCopies c lives l list → AllCopies c lives m list
  copies_away sv l m [] w d r = record {}
  copies_away sv l m (a ∷ rest) w d r =
      record {
        one =
            record {
              pages = λ ino p. subst (λ b. PageOk (held_in a.session ino).mode b a.store ino p) (sym (joined_content sv l m (file_at a.server ino) p w d.one)) (r.one.pages ino p);
              fates = joined_fates c (lives a.server) a.server a.store sv l m w d.one r.one.fates;
            };
        rest = copies_away sv l m rest w d.rest r.rest;
      }

  copies_last : (l : List LogEntry) (list : List Association) (a : Association) → AllCopies c lives l list → CopiesAt c lives l a → AllCopies c lives l (list ++ a ∷ [])
  copies_last l [] a r p = record { one = p; rest = record {} }
  copies_last l (x ∷ list) a r p = record { one = r.one; rest = copies_last l list a r.rest p }

  -- the copies of a whole client within a step: those at the servers that are done, and those ahead
  pub record Within (T : ClientTurn) (rest : List Association) : Type 0 where
    pub done : AllCopies c lives (logged c lives T.out es) T.state.associations
    pub ahead : AllCopies c lives (logged c lives T.out es) rest
    pub right : Right ask_of c lives es T.out
    pub asked : AskedSo ask_of T.state.operations

  -- what a rule at each server makes of them
  pub record Made (T : ClientTurn) (rest : List Association) (U : ClientTurn) : Type 0 where
    pub within : Within T rest → Within U []
    pub places : SamePlaces (T.state.associations ++ rest) U.state.associations
    pub joined : JoinedBy U.state.associations (logged c lives T.out es) (logged c lives U.out es)

  -- a premise of a rule, at each association
  abbrev pub AtEachOf : (List LogEntry → Association → Type 0) → List LogEntry → List Association → Type 0
  AtEachOf P l [] = Unit {0}
  AtEachOf P l (a ∷ rest) = record { one : P l a; rest : AtEachOf P l rest }

  -- a premise that holds in a log that goes on by another server's entries
  abbrev pub StaysAway : (List LogEntry → Association → Type 0) → Type 0
  StaysAway P = (a : Association) (sv : ServerId) (l m : List LogEntry) → Joined sv l m → same_server sv a.server ≡ false → P l a → P m a

  premises_away : (P : List LogEntry → Association → Type 0) → StaysAway P → (sv : ServerId) (l m : List LogEntry) (list : List Association) → Joined sv l m → Differs sv list → AtEachOf P l list → AtEachOf P m list
  premises_away P f sv l m [] w d r = record {}
  premises_away P f sv l m (a ∷ rest) w d r = record { one = f a sv l m w d.one r.one; rest = premises_away P f sv l m rest w d.rest r.rest }

  -- a rule that keeps the copies at each association keeps those of the client
  pub these_keep : (P : List LogEntry → Association → Type 0) → StaysAway P → (rule : Turn → Turn) → ((t : Turn) → P (logged c lives t.out es) t.here → Keeps ask_of c lives es t (rule t)) →
      (rest : List Association) (T : ClientTurn) → Apart (T.state.associations ++ rest) → AtEachOf P (logged c lives T.out es) rest → Made T rest (at_these rule rest T)
  unfolding at_these
  these_keep P f rule k [] T d o =
      record {
        within = λ r. r;
        places = subst (λ xs. SamePlaces xs T.state.associations) (sym (append-nil T.state.associations)) (same_self T.state.associations);
        joined = joined_nothing T.state.associations _ _ refl;
      }
  these_keep P f rule k (a ∷ rest) T d o =
      let t : Turn = enter T a in
      let u : Turn = rule t in
      let w : Keeps ask_of c lives es t u = k t o.one in
      let j : Joined a.server (logged c lives T.out es) (logged c lives u.out es) = w.away.joined in
      let s : SamePlaces (T.state.associations ++ a ∷ rest) (T.state.associations ++ u.here ∷ rest) = same_amid T.state.associations rest a u.here w.away.there w.away.alive in
      let e : T.state.associations ++ u.here ∷ rest ≡ (T.state.associations ++ u.here ∷ []) ++ rest = sym (append_assoc T.state.associations (u.here ∷ []) rest) in
      let m : Made (leave T u) rest (at_these rule rest (leave T u)) =
      these_keep P f rule k rest (leave T u) (subst (λ xs. Apart xs) e (apart_same _ _ (servers_of _ _ s) d))
      (premises_away P f a.server (logged c lives T.out es) (logged c lives u.out es) rest j (behind T.state.associations rest a d) o.rest) in
      record {
        within = λ r. m.within (next r (w.keep (record { pages = r.ahead.one.pages; right = r.right; asked = r.asked; fates = r.ahead.one.fates })) j);
        places = places m e s;
        joined = joined_next _ _ _ _ (first j (places m e s)) m.joined;
      }
    where
      places : Made (leave T (rule (enter T a))) rest (at_these rule rest (leave T (rule (enter T a)))) → T.state.associations ++ (rule (enter T a)).here ∷ rest ≡ (T.state.associations ++ (rule (enter T a)).here ∷ []) ++ rest →
          SamePlaces (T.state.associations ++ a ∷ rest) (T.state.associations ++ (rule (enter T a)).here ∷ rest) → SamePlaces (T.state.associations ++ a ∷ rest) (at_these rule rest (leave T (rule (enter T a)))).state.associations
      places m e s = same_next _ _ _ s (subst (λ xs. SamePlaces xs (at_these rule rest (leave T (rule (enter T a)))).state.associations) (sym e) m.places)

      first : Joined a.server (logged c lives T.out es) (logged c lives (rule (enter T a)).out es) → SamePlaces (T.state.associations ++ a ∷ rest) (at_these rule rest (leave T (rule (enter T a)))).state.associations →
          JoinedBy (at_these rule rest (leave T (rule (enter T a)))).state.associations (logged c lives T.out es) (logged c lives (rule (enter T a)).out es)
      first j s = record { more = j.more; is = j.is; listed = all_of_server a.server _ j.more (listed_same a.server _ _ (servers_of _ _ s) (listed_amid T.state.associations rest a)) j.own }

      next : Within T (a ∷ rest) → Copies ask_of c lives es (rule (enter T a)) → Joined a.server (logged c lives T.out es) (logged c lives (rule (enter T a)).out es) → Within (leave T (rule (enter T a))) rest
      next r x j =
          let u : Turn = rule (enter T a) in
          record {
            done =
                copies_last (logged c lives u.out es) T.state.associations u.here
                (copies_away a.server (logged c lives T.out es) (logged c lives u.out es) T.state.associations j (before T.state.associations rest a d) r.done) (record { pages = x.pages; fates = x.fates });
            ahead = copies_away a.server (logged c lives T.out es) (logged c lives u.out es) rest j (behind T.state.associations rest a d) r.ahead.rest;
            right = x.right;
            asked = x.asked;
          }

  pub each_keep : (P : List LogEntry → Association → Type 0) → StaysAway P → (rule : Turn → Turn) → ((t : Turn) → P (logged c lives t.out es) t.here → Keeps ask_of c lives es t (rule t)) →
      (T : ClientTurn) → Apart T.state.associations → AtEachOf P (logged c lives T.out es) T.state.associations → Made T [] (at_each rule T)
  unfolding at_each
  each_keep P f rule k T d o =
      let m = these_keep P f rule k T.state.associations (with_associations [] T) d o in
      record {
        within = λ r. m.within (record { done = record {}; ahead = r.done; right = r.right; asked = r.asked });
        places = subst (λ xs. SamePlaces xs (at_each rule T).state.associations) (sym (append-nil T.state.associations)) m.places;
        joined = m.joined;
      }
