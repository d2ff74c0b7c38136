use Rattle.program_reports.specs.FaultLines.{fault_line}
use Rattle.program_reports.proofs.fault_lines.put_fault.Goals as goal

pub returns-in-Read : goal.returns-in-Read
unfolding fault_line
returns-in-Read g c = rw c.in-Read.is c.put_read_fault.ensures

pub returns-in-ReadFirst : goal.returns-in-ReadFirst
unfolding fault_line
returns-in-ReadFirst g c = rw c.in-ReadFirst.is c.put_first_read_fault.ensures

pub returns-in-ReadSecond : goal.returns-in-ReadSecond
unfolding fault_line
returns-in-ReadSecond g c = rw c.in-ReadSecond.is c.put_second_read_fault.ensures

pub returns-in-Script : goal.returns-in-Script
unfolding fault_line
returns-in-Script g c = rw c.in-Script.is c.put_script_fault.ensures

pub returns-in-Notes : goal.returns-in-Notes
unfolding fault_line
returns-in-Notes g c = rw c.in-Notes.is c.put_notes_fault.ensures

pub returns-in-Refused : goal.returns-in-Refused
unfolding fault_line
returns-in-Refused g c = rw c.in-Refused.is c.put_refused.ensures

pub returns-in-NotNeutral : goal.returns-in-NotNeutral
unfolding fault_line
returns-in-NotNeutral g c = rw c.in-NotNeutral.is c.put_not_neutral.ensures

pub returns-in-OtherVersion : goal.returns-in-OtherVersion
unfolding fault_line
returns-in-OtherVersion g c = rw c.in-OtherVersion.is c.put.ensures

pub returns-in-Recording : goal.returns-in-Recording
unfolding fault_line
returns-in-Recording g c = rw c.in-Recording.is c.put_recording_fault.ensures

pub returns-in-NoMember : goal.returns-in-NoMember
unfolding fault_line
returns-in-NoMember g c = rw c.in-NoMember.is c.put_no_member.ensures

pub returns-in-Write : goal.returns-in-Write
unfolding fault_line
returns-in-Write g c = rw c.in-Write.is c.put_write_fault.ensures

pub returns-in-Memory : goal.returns-in-Memory
unfolding fault_line
returns-in-Memory g c = rw c.in-Memory.is c.put-in-Memory.ensures

pub returns-in-PlanFailed : goal.returns-in-PlanFailed
unfolding fault_line
returns-in-PlanFailed g c = rw c.in-PlanFailed.is c.put-in-PlanFailed.ensures

pub returns-in-ReadFrom : goal.returns-in-ReadFrom
unfolding fault_line
returns-in-ReadFrom g c = rw c.in-ReadFrom.is c.put_from_read_fault.ensures

pub returns-in-Presets : goal.returns-in-Presets
unfolding fault_line
returns-in-Presets g c = rw c.in-Presets.is c.put_preset_fault.ensures

pub returns-in-Full : goal.returns-in-Full
unfolding fault_line
returns-in-Full g c = rw c.in-Full.is c.put_full.ensures

pub returns-in-Table : goal.returns-in-Table
unfolding fault_line
returns-in-Table g c = rw c.in-Table.is c.put_table_fault.ensures

pub returns-in-InRecording : goal.returns-in-InRecording
unfolding fault_line
returns-in-InRecording g c = rw c.in-InRecording.is c.put_in_recording.ensures
