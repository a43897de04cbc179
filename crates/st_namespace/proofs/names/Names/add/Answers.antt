use Rattle.std.proofs.Common.{◌≡◌, ℕ, Bool, List, Result, Ok, Err, refl, sym, ap, ◌∙◌, subst, inl, inr}
use Rattle.std.specs.Prelude.{IfErr, IfOk, OnErr}
use Rattle.std.proofs.lemmas.Result.{err_from_is_err_and}
use Rattle.st_base.specs.declared.names.NameRefusal.{NameRefusal}
use Rattle.st_base.specs.declared.names.NameRefusal.TheVariants.{Memory}
use Rattle.st_rules.specs.declared.names.EntryRefusal.{EntryRefusal}
use Rattle.st_rules.specs.Names.{Changed, Names, add, added}
use Rattle.st_namespace.specs.Answers.{Changes, ino_told}
use Rattle.st_namespace.proofs.Rules.{told_refusal, addable}
use Rattle.st_namespace.proofs.names.Names.add.Goals as goal

abbrev changed : Changed → Result Changed EntryRefusal
changed x = Ok x

-- an entry that may be added is pushed, or memory runs out
pushed : (r : Result ℕ NameRefusal) (old new : Names) (dir : ℕ) (name own : List ℕ) (directory : Bool) (i : ℕ) → own ≡ name →
    Ok i ≡ ino_told (add old dir name directory)
    → IfOk r (λ ino. record { names = new; ino = ino } ≡ added old dir own directory) → OnErr r (new ≡ old) → IfErr r (λ f. f ≡ Memory) →
    Changes old new r (add old dir name directory)
pushed (Ok ino) old new dir name own directory i same told ok err memory =
    (addable old dir name directory i told).added ∙ ap changed (ap (λ (n : List ℕ). added old dir n directory) (sym same) ∙ sym ok)
pushed (Err f) old new dir name own directory i same told ok err memory = (inr memory, err)

pub returns-in_err-check_add-clause-exact : goal.returns-in_err-check_add-clause-exact
returns-in_err-check_add-clause-exact c =
    let p = err_from_is_err_and c.from_residual.result c.from_residual.ensures.1 in
    rw (p.1, p.2) (inl (told_refusal _ _ (c.in_err-check_add.ensures c.args.directory)), refl)

pub push-requires-clause-room : goal.push-requires-clause-room
push-requires-clause-room c = (addable _ _ _ c.args.directory _ (c.in_ok-check_add.ensures c.args.directory)).room

pub push-requires-clause-free : goal.push-requires-clause-free
push-requires-clause-free c = rw c.in-Ok.ensures (addable _ _ _ c.args.directory _ (c.in_ok-check_add.ensures c.args.directory)).free

pub returns-clause-exact : goal.returns-clause-exact
returns-clause-exact c = pushed c.push.result c.args.self.now c.push.new.self c.args.dir c.args.name.now c.in-Ok.name c.args.directory _ c.in-Ok.ensures
    (c.in_ok-check_add.ensures c.args.directory)
    c.push.ensures.ok c.push.ensures.err c.push.ensures.memory
