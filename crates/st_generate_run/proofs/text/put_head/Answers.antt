use Rattle.std.proofs.Common.{◌≡◌, ◌++◌, List, ℕ, OnOk, codes, refl, subst}
use Rattle.std.specs.Fmt.{digits}
use Rattle.st_generate.specs.GeneratedText.{head_line}
use Rattle.st_generate_run.proofs.text.put_head.Goals as goal

head_bytes : codes "tank 1 1000 500 700 850 100 50 101 100 3 2 2 64\n" ≡ head_line
unfolding digits
head_bytes = refl

pub returns : goal.returns
returns c = subst (λ (bs : List ℕ). OnOk c.put_text.result (c.put_text.new.out.items ≡ c.args.text.now.items ++ bs)) head_bytes c.put_text.ensures
