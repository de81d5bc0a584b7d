-- The replica's numbers: what is read off them, and each way in which a call changes them.
use Rattle.std.specs.Prelude.{Bool, not, ◌&&◌, ◌||◌, ℕ, ◌+◌, ◌/◌, ◌%◌, ltb, leb, eqb}
use Rattle.base.specs.Pick.{pick}
use Rattle.members.specs.Groups.{group_size, quorum_of}
use Rattle.decide.specs.declared.Scalars.{Scalars}

abbrev pub nobody : ℕ
nobody = 255

-- 2^64 - 1: the bar of a member of which nothing is known
abbrev pub unknown_bar : ℕ
unknown_bar = 18446744073709551615

-- is_leader()
abbrev pub leads : Scalars → Bool
leads sc = eqb sc.leader sc.id

abbrev pub is_member : Scalars → ℕ → Bool
is_member sc m = ltb m sc.group

-- 2: "sender not a member; or sender is self"
abbrev pub is_peer : Scalars → ℕ → Bool
is_peer sc m = is_member sc m && not (eqb m sc.id)

abbrev pub quorum : Scalars → ℕ
quorum sc = quorum_of sc.group

-- 01: "Options: urgent commit notice; step-up disallowed."
abbrev pub urgent : Scalars → Bool
urgent sc = eqb (sc.options % 2) 1

abbrev pub disallowed : Scalars → Bool
disallowed sc = eqb (sc.options / 2 % 2) 1

-- 02, Wish 6: "a strict kind of replica, chosen when it is made (trace: 4 more in trigger); the base kind stays"
abbrev pub strict : Scalars → Bool
strict sc = eqb (sc.options / 4 % 2) 1

-- 10: "new replica with numbers outside the above"
abbrev pub may_be : ℕ → ℕ → ℕ → ℕ → Bool
may_be id group start options = group_size group && (ltb id group && (leb start 4294967296 && leb options 7))

-- 1, the numbers, for a log of so many slots: "bad group size or id, start above 2^32, a count above its table's size, a .. leader outside the
-- group, not start <= exec_bar <= commit_bar <= log end, or accept_bar below start or above the log end"
unfoldable pub fit_scalars : Scalars → ℕ → Bool
fit_scalars sc len =
    group_size sc.group && (ltb sc.id sc.group && (leb sc.start 4294967296 && (leb len 64
    && ((eqb sc.leader nobody || ltb sc.leader sc.group)
    && (leb sc.start sc.exec_bar && (leb sc.exec_bar sc.commit_bar && (leb sc.commit_bar (sc.start + len)
    && (leb sc.start sc.accept_bar && leb sc.accept_bar (sc.start + len)))))))))

-- become_a_leader "is ignored if a leader is known and is not the timeout's source, or if disallowed"
abbrev pub ignores_timeout : Scalars → ℕ → Bool
ignores_timeout sc source = (not (eqb sc.leader nobody) && not (eqb sc.leader source)) || disallowed sc

-- "if I'm the leader and urgent CommitNotice is on", once the end of the log is committed, at the ballot that it prepared
abbrev pub notifies : Scalars → ℕ → ℕ → Bool
notifies sc bar end = eqb bar end && (leads sc && (ltb 0 sc.bal_prepared && (eqb sc.bal_prepared sc.bal_max_seen && urgent sc)))

-- the two halves of what changes, each number by its name: who leads and the three ballots; the three bars, the log's size and peer_accept_max
abbrev pub with_ballots : Scalars → record { leader : ℕ; bal_prep_sent : ℕ; bal_prepared : ℕ; bal_max_seen : ℕ } → Scalars
with_ballots sc new =
    record {
      id = sc.id;
      group = sc.group;
      start = sc.start;
      options = sc.options;
      leader = new.leader;
      bal_prep_sent = new.bal_prep_sent;
      bal_prepared = new.bal_prepared;
      bal_max_seen = new.bal_max_seen;
      accept_bar = sc.accept_bar;
      commit_bar = sc.commit_bar;
      exec_bar = sc.exec_bar;
      wal_offset = sc.wal_offset;
      peer_accept_max = sc.peer_accept_max;
      lead_trigger = sc.lead_trigger;
    }

abbrev pub with_numbers : Scalars → record { accept_bar : ℕ; commit_bar : ℕ; exec_bar : ℕ; wal_offset : ℕ; peer_accept_max : ℕ } → Scalars
with_numbers sc new =
    record {
      id = sc.id;
      group = sc.group;
      start = sc.start;
      options = sc.options;
      leader = sc.leader;
      bal_prep_sent = sc.bal_prep_sent;
      bal_prepared = sc.bal_prepared;
      bal_max_seen = sc.bal_max_seen;
      accept_bar = new.accept_bar;
      commit_bar = new.commit_bar;
      exec_bar = new.exec_bar;
      wal_offset = new.wal_offset;
      peer_accept_max = new.peer_accept_max;
      lead_trigger = sc.lead_trigger;
    }

-- check_leader: the believed leader and the largest ballot seen, whatever it was; `followed` "acts only on a larger ballot"
abbrev pub following : Scalars → ℕ → ℕ → Scalars
following sc peer ballot =
    with_ballots sc (record { leader = peer; bal_prep_sent = sc.bal_prep_sent; bal_prepared = sc.bal_prepared; bal_max_seen = ballot })

abbrev pub followed : Scalars → ℕ → ℕ → Scalars
followed sc peer ballot = pick (ltb sc.bal_max_seen ballot) (following sc peer ballot) sc

-- "a leader first reports that it is none"
abbrev pub steps_down : Scalars → ℕ → Bool
steps_down sc ballot = ltb sc.bal_max_seen ballot && leads sc

abbrev pub with_prepared : Scalars → ℕ → Scalars
with_prepared sc ballot =
    with_ballots sc (record { leader = sc.leader; bal_prep_sent = sc.bal_prep_sent; bal_prepared = ballot; bal_max_seen = sc.bal_max_seen })

abbrev pub with_bars : Scalars → ℕ → ℕ → ℕ → Scalars
with_bars sc accept commit exec =
    with_numbers sc (record { accept_bar = accept; commit_bar = commit; exec_bar = exec; wal_offset = sc.wal_offset; peer_accept_max = sc.peer_accept_max })

-- one bar moves
abbrev pub with_accept_bar : Scalars → ℕ → Scalars
with_accept_bar sc bar = with_bars sc bar sc.commit_bar sc.exec_bar

abbrev pub with_commit_bar : Scalars → ℕ → Scalars
with_commit_bar sc bar = with_bars sc sc.accept_bar bar sc.exec_bar

abbrev pub with_exec_bar : Scalars → ℕ → Scalars
with_exec_bar sc bar = with_bars sc sc.accept_bar sc.commit_bar bar

-- the size of the log as the host last told it; a slot's own wal_offset is `with_offset` of Slots
abbrev pub with_log_size : Scalars → ℕ → Scalars
with_log_size sc size =
    with_numbers sc (record { accept_bar = sc.accept_bar; commit_bar = sc.commit_bar; exec_bar = sc.exec_bar; wal_offset = size; peer_accept_max = sc.peer_accept_max })

abbrev pub with_peer_max : Scalars → ℕ → Scalars
with_peer_max sc bar =
    with_numbers sc (record { accept_bar = sc.accept_bar; commit_bar = sc.commit_bar; exec_bar = sc.exec_bar; wal_offset = sc.wal_offset; peer_accept_max = bar })

-- the trigger of the lead: 02, Wish 6, (c) tells a reply of this lead by it, also where the trigger slot was committed since
abbrev pub with_trigger : Scalars → ℕ → Scalars
with_trigger sc trigger =
    record {
      id = sc.id;
      group = sc.group;
      start = sc.start;
      options = sc.options;
      leader = sc.leader;
      bal_prep_sent = sc.bal_prep_sent;
      bal_prepared = sc.bal_prepared;
      bal_max_seen = sc.bal_max_seen;
      accept_bar = sc.accept_bar;
      commit_bar = sc.commit_bar;
      exec_bar = sc.exec_bar;
      wal_offset = sc.wal_offset;
      peer_accept_max = sc.peer_accept_max;
      lead_trigger = trigger;
    }

-- become_a_leader: self leads at a ballot of its own that is not prepared yet, and knows no member's accept bar
abbrev pub stepped_up : Scalars → ℕ → ℕ → Scalars
stepped_up sc trigger ballot =
    with_trigger (with_peer_max (with_ballots sc (record { leader = sc.id; bal_prep_sent = ballot; bal_prepared = 0; bal_max_seen = ballot })) unknown_bar) trigger
