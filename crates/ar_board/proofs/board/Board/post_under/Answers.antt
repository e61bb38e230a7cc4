use Rattle.std.proofs.Common.{◌≡◌, refl, sym, ◌∙◌, arith, rules}
use Rattle.std.proofs.lemmas.Result.{on_ok_weaker}
use Rattle.ar_board.specs.Locks.{lock_of}
use Rattle.ar_board.proofs.UnderLocks.{last_lock, one_more}
use Rattle.ar_board.proofs.board.Board.post_under.Goals as goal

pub returns-in-0-clause-more : goal.returns-in-0-clause-more
returns-in-0-clause-more g c =
    let own : lock_of c.args.run ≡ 0 = sym c.lock_of_run.ensures ∙ c.in-0.is in
    rw (← c.held.view_is) (on_ok_weaker c.post.result (λ more. one_more g.M.BundleName.bundle (lock_of c.args.run) 0 _ _ _ own (omega arith) c.post.ensures.parts more c.post.ensures.few) c.post.ensures.more)

pub returns-in-1-clause-more : goal.returns-in-1-clause-more
returns-in-1-clause-more g c =
    let own : lock_of c.args.run ≡ 1 = sym c.lock_of_run.ensures ∙ c.in-1.is in
    rw (← c.held.view_is) (on_ok_weaker c.post-in-1.result (λ more. one_more g.M.BundleName.bundle (lock_of c.args.run) 1 _ _ _ own (omega arith) refl more c.post-in-1.ensures.few) c.post-in-1.ensures.more)

pub returns-in-2-clause-more : goal.returns-in-2-clause-more
returns-in-2-clause-more g c =
    let own : lock_of c.args.run ≡ 2 = sym c.lock_of_run.ensures ∙ c.in-2.is in
    rw (← c.held.view_is) (on_ok_weaker c.post-in-2.result (λ more. one_more g.M.BundleName.bundle (lock_of c.args.run) 2 _ _ _ own (omega arith) refl more c.post-in-2.ensures.few) c.post-in-2.ensures.more)

pub returns-in_default-clause-more : goal.returns-in_default-clause-more
returns-in_default-clause-more g c =
    let own : lock_of c.args.run ≡ 3 = sym c.lock_of_run.ensures ∙ last_lock c.args.run c.lock_of_run.result c.lock_of_run.ensures (search rules) (search rules) (search rules) in
    rw (← c.held.view_is) (on_ok_weaker c.post-in_default.result (λ more. one_more g.M.BundleName.bundle (lock_of c.args.run) 3 _ _ _ own (omega arith) refl more c.post-in_default.ensures.few) c.post-in_default.ensures.more)
