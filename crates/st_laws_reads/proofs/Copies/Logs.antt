-- The log after outputs, in two parts.
use Rattle.st_lemmas.proofs.Words
use Words.{◌≡◌, ℕ, List, [], ◌∷◌, ◌++◌, Option, Some, None, refl, sym, ap, ◌∙◌, subst, append_assoc, ClientId, ServerId, Life, Ask, Output, LogEntry}
use Rattle.st_laws_refine.specs.Client.World.{logged, logged_one}
use Rattle.st_laws_reads.specs.Copies.Copies.{Right, RightBehind, last_of, AllOf, Joined, Away}
use Words.{append-nil}

pub logged_both : (c : ClientId) (lives : ServerId → Life) (os ps : List Output) (es : List LogEntry) → logged c lives (os ++ ps) es ≡ logged c lives ps (logged c lives os es)
logged_both c lives [] ps es = refl
logged_both c lives (o ∷ os) ps es = logged_both c lives os ps (logged_one c lives o es)

right_behind : (asks : ℕ → Option Ask) (c : ClientId) (lives : ServerId → Life) (last : Option Output) (os ps : List Output) (es : List LogEntry) →
    RightBehind asks c lives last es os → RightBehind asks c lives (last_of last os) (logged c lives os es) ps → RightBehind asks c lives last es (os ++ ps)
right_behind asks c lives last [] ps es r q = q
right_behind asks c lives last (o ∷ os) ps es r q = record { one = r.one; rest = right_behind asks c lives (Some o) os ps (logged_one c lives o es) r.rest q }

pub right_both : (asks : ℕ → Option Ask) (c : ClientId) (lives : ServerId → Life) (os ps : List Output) (es : List LogEntry) → Right asks c lives es os → RightBehind asks c lives (last_of None os) (logged c lives os es) ps → Right asks c lives es (os ++ ps)
right_both asks c lives os ps es r q = right_behind asks c lives None os ps es r q

pub last_end : (last : Option Output) (os : List Output) (o : Output) → last_of last (os ++ o ∷ []) ≡ Some o
last_end last [] o = refl
last_end last (x ∷ os) o = last_end (Some x) os o

-- Logs that go on by entries of one server's files.
pub joined_same : (sv : ServerId) (l : List LogEntry) → Joined sv l l
joined_same sv l = record { more = []; is = sym (append-nil l); own = record {} }

all_both : (sv : ServerId) (ms ns : List LogEntry) → AllOf sv ms → AllOf sv ns → AllOf sv (ms ++ ns)
all_both sv [] ns a b = b
all_both sv (e ∷ ms) ns a b = record { one = a.one; rest = all_both sv ms ns a.rest b }

pub joined_then : (sv sv2 : ServerId) (l m n : List LogEntry) → sv2 ≡ sv → Joined sv l m → Joined sv2 m n → Joined sv l n
joined_then sv sv2 l m n e p q =
    record {
      more = p.more ++ q.more;
      is = q.is ∙ ap (λ x. x ++ q.more) p.is ∙ append_assoc l p.more q.more;
      own = all_both sv p.more q.more p.own (subst (λ v. AllOf v q.more) e q.own);
    }

pub still : (sv : ServerId) (life : Life) (l : List LogEntry) → Away sv sv life life l l
still sv life l = record { there = refl; alive = refl; joined = joined_same sv l }

pub away_then : (sv sv2 sv3 : ServerId) (a b d : Life) (l m n : List LogEntry) → Away sv sv2 a b l m → Away sv2 sv3 b d m n → Away sv sv3 a d l n
away_then sv sv2 sv3 a b d l m n p q = record { there = q.there ∙ p.there; alive = q.alive ∙ p.alive; joined = joined_then sv sv2 l m n p.there p.joined q.joined }

-- outputs that leave the log
pub away_out : (c : ClientId) (lives : ServerId → Life) (es : List LogEntry) (sv : ServerId) (life : Life) (os ps : List Output) → ((x : List LogEntry) → logged c lives ps x ≡ x) →
    Away sv sv life life (logged c lives os es) (logged c lives (os ++ ps) es)
away_out c lives es sv life os ps q = subst (λ m. Away sv sv life life (logged c lives os es) m) (sym (logged_both c lives os ps es ∙ q (logged c lives os es))) (still sv life (logged c lives os es))

-- one entry joins
pub away_entry : (sv : ServerId) (life : Life) (l m : List LogEntry) (e : LogEntry) → m ≡ l ++ e ∷ [] → e.of.file.server ≡ sv → Away sv sv life life l m
away_entry sv life l m e j o = record { there = refl; alive = refl; joined = record { more = e ∷ []; is = j; own = record { one = o; rest = record {} } } }
