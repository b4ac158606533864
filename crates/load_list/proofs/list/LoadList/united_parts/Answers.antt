use Rattle.std.proofs.Common.{◌∙◌, List, arith, ap, sym}
use Rattle.std.specs.Prelude.{option_copied}
use Rattle.history_machine.specs.Sessions.{Repo, find_repo}
use Rattle.load_list.proofs.Uniting.{as_many_parts, held_as, held_there, is_some_copied, oldest_there, oldest_within, repos_in, united_is}
use Rattle.load_list.proofs.list.LoadList.united_parts.Goals as goal

pub offset_bounds-names-united : goal.offset_bounds-names-united
offset_bounds-names-united c =
    let within = oldest_within c.args.prune c.args.names.now c.args.self.now.repos c.args.parts.now c.in_ok-united.united.events.list c.in_ok-united.united.base c.requires.parts
    c.in_ok-united.ensures.returns c.in_ok-united.ensures.base in
    omega arith

pub bounds-names-united : goal.bounds-names-united
bounds-names-united c =
    oldest_within c.args.prune c.args.names.now c.args.self.now.repos c.args.parts.now c.in_ok-united.united.events.list c.in_ok-united.united.base c.requires.parts
    c.in_ok-united.ensures.returns c.in_ok-united.ensures.base

pub unwrap-oldest-requires : goal.unwrap-oldest-requires
unwrap-oldest-requires c =
    let name = c.as_bytes.result.now in
    let es = c.self.inside.by_name.entries in
    let there = oldest_there c.args.prune c.args.names.now c.args.self.now.repos c.args.parts.now c.in_ok-united.united.events.list c.in_ok-united.united.base c.requires.parts
    c.in_ok-united.ensures.returns c.in_ok-united.ensures.base name (rw c.as_bytes.ensures c.index-names-united.is) in
    is_some_copied c.get.result (held_there name es _ (ap (λ (l : List Repo). find_repo name l) (ap repos_in c.self.view_is) ∙ there) (option_copied c.get.result) c.get.ensures.value)

pub returns-clause-united : goal.returns-clause-united
returns-clause-united c =
    let names = c.args.names.now in
    let repos = c.args.self.now.repos in
    let parts = c.args.parts.now in
    let name = c.as_bytes.result.now in
    let history = c.in_ok-united.united.events.list in
    let place = c.in_ok-united.united.base in
    let es = c.self.inside.by_name.entries in
    let old = c.unwrap-oldest.result.now in
    let there = oldest_there c.args.prune names repos parts history place c.requires.parts c.in_ok-united.ensures.returns c.in_ok-united.ensures.base name (rw c.as_bytes.ensures c.index-names-united.is) in
    let held = held_as name es _ (ap (λ (l : List Repo). find_repo name l) (ap repos_in c.self.view_is) ∙ there) old (ap option_copied (sym c.unwrap-oldest.ensures) ∙ c.get.ensures.value) in
    λ new_name. united_is c.args.prune names repos parts history place c.requires.parts c.in_ok-united.ensures.returns c.in_ok-united.ensures.base new_name name old c.in_ok-with_names.field-0 held
    (c.in_ok-with_names.ensures ∙ λ i. record { history = history; next = c.in_ok-united.ensures.next i; names = c.in_ok-lists.ensures.names i })

pub returns-clause-several : goal.returns-clause-several
returns-clause-several c =
    let many = c.a_unite_is_lawful.ensures.several c.args.prune c.args.parts.now c.in_ok-united.united.events.list c.in_ok-united.ensures.returns in
    let same = as_many_parts c.args.names.now c.args.self.now.repos c.args.parts.now c.requires.parts in
    omega arith
